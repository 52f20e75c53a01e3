-- A whole run, from what is done where its input ends or it stops.
use Rattle.std.proofs.Common.{◌≡◌, ℕ, ◌+◌, ◌^◌, ◌≤◌, Bool, false, List, [], ◌++◌, length, take, IsTrue, Result, Ok, Err, refl, sym, ap, subst, ◌∙◌, arith, zero-add}
use Rattle.std.specs.Prelude.{All, IfOk, IfErr, OnErr, OnOk}
use Rattle.std.proofs.lemmas.List.{append-nil}
use Rattle.aria_host.specs.State.{State}
use Rattle.aria_host.proofs.Moments.{weakened}
use Rattle.aria_model.specs.declared.refusal.Met.{Met}
use Rattle.aria_model.specs.World.{World}
use Rattle.aria_model.specs.Script.{Exceptions, lines_of, ended_lines, statements}
use Rattle.aria_model.specs.Journal.{met_at}
use Rattle.aria_engine.specs.declared.store.Store.{Store}
use Rattle.aria_engine.specs.Holds.{Holds, IsLogAlone}
use Rattle.aria_engine.specs.Entries.{Meets}
use Rattle.aria_engine.specs.Store.{tables_of, count_of, pages_of, met_of, IsFresh, SameFaults, NoFewerFaults}
use Rattle.aria_engine.specs.Done.{Leaves, Does, DoesPart, AreMet, IsFull, Counts as Tallies}
use Rattle.aria_engine.proofs.Running.{running_holds, running_rests, running_settled, running_pages}
use Rattle.std.proofs.Math.Seq.{take-length}
use Rattle.aria_engine.proofs.Meeting.{meets_full}
use Rattle.aria_engine.proofs.Doing.{does_more, does_part, does_then_part}
use Rattle.aria_tools.specs.declared.stop.Stop.{Stop}
use Rattle.aria_tools.specs.Stops.{IsLineStop}
use Rattle.aria_tools.specs.Endings.{Supply, StaysAlone, Took, AnswersBy}
use Rattle.aria_tools.specs.Pieces.{Fed, IsReady}
use Rattle.aria_tools.specs.Sessions.{LineStops, Works, RunsOn, RunsFrom}
use Rattle.aria_tools.proofs.Pieces.{line_stops, same_faults_more, no_fewer_more, no_fewer_same}

-- the exceptions that were met in the end
abbrev met_since : Store → Store → Exceptions
met_since before now = λ k. met_of now (count_of before + k)

met_then : (before now : Store) → AreMet (met_since before now) (count_of before) now
met_then before now = λ k low. refl

-- nothing is told on standard error
pub part_silent : (to : Bool) (lines : List (List ℕ)) (st0 st1 : Store) (h0 h1 : State) → DoesPart to lines st0 st1 h0 h1 → IsTrue to → h1.err ≡ h0.err
part_silent to lines st0 st1 h0 h1 part told = (part.all (met_since st0 st1) (met_then st0 st1)).err told

pub does_silent : (to : Bool) (lines : List (List ℕ)) (st0 st1 : Store) (r0 r1 : Bool) (h0 h1 : State) → Does to lines st0 st1 r0 r1 h0 h1 → IsTrue to → h1.err ≡ h0.err
does_silent to lines st0 st1 r0 r1 h0 h1 does told = (does.all (met_since st0 st1) (met_then st0 st1)).err told

-- On a fresh store, the exceptions of the statements are those that it has noted.
fresh_met : (st0 st1 : Store) → IsFresh st0 → AreMet (met_at st1.tally.met) (count_of st0) st1
fresh_met st0 st1 fresh = λ k low. ap (met_of st1) (sym (zero-add k) ∙ ap (λ (n : ℕ). n + k) (sym fresh.count))

fresh_meets : (st0 st1 : Store) (lines : List (List ℕ)) (added : List Met) (last : ℕ) (left : World) → IsFresh st0 → Tallies st0 st1 added → Meets (count_of st0) (pages_of st0) (tables_of st0) lines added last left
    → Meets 0 (pages_of st0) (tables_of st0) lines st1.tally.met last left
fresh_meets st0 st1 lines added last left fresh counts meets =
    let all : added ≡ st1.tally.met = sym (counts.met_is ∙ ap (λ (ms : List Met). ms ++ added) fresh.met) in
    subst (λ (n : ℕ). Meets n (pages_of st0) (tables_of st0) lines st1.tally.met last left) fresh.count
    (subst (λ (ms : List Met). Meets (count_of st0) (pages_of st0) (tables_of st0) lines ms last left) all meets)

-- what a run that stops has answered
works_part : (to : Bool) (s0 s1 : Supply) (stop : Stop) (st0 st1 : Store) (h0 h1 : State) → IsFresh st0 → DoesPart to (lines_of s0.left) st0 st1 h0 h1
    → (IsTrue to → AnswersBy stop s0 s1 (tables_of st0) (met_at st1.tally.met) h0 h1) → Works to s0 s1 (Err stop) st1.tally.met st0 h0 h1
works_part to s0 s1 stop st0 st1 h0 h1 fresh part by =
    let ran = part.all (met_at st1.tally.met) (fresh_met st0 st1 fresh) in
    record {
      count = part.answered;
      meets = record {
        within = part.meets.within;
        last = part.meets.last;
        left = part.meets.left;
        meets = fresh_meets st0 st1 (take part.answered (statements (lines_of s0.left))) part.added part.meets.last part.meets.left fresh part.counts part.meets.meets;
      };
      pages = λ told. tt;
      runs = λ told alone. record {
        answered = record { out = ran.out told; by = by told };
        moments = ran.moments told alone;
      };
    }

-- no crash leaves a file but the log's
pub part_alone : (to : Bool) (lines : List (List ℕ)) (st0 st1 : Store) (h0 h1 : State) → DoesPart to lines st0 st1 h0 h1 → IsTrue to → StaysAlone h0 h1
part_alone to lines st0 st1 h0 h1 part told alone =
    let xs = met_since st0 st1 in
    weakened h0 h1 (Leaves (tables_of st0) lines xs h0.out) (λ c t. IsLogAlone c) ((part.all xs (met_then st0 st1)).moments told alone) (λ c t leaves. leaves.holds.alone)

pub does_alone : (to : Bool) (lines : List (List ℕ)) (st0 st1 : Store) (r0 r1 : Bool) (h0 h1 : State) → Does to lines st0 st1 r0 r1 h0 h1 → IsTrue to → StaysAlone h0 h1
does_alone to lines st0 st1 r0 r1 h0 h1 does = part_alone to lines st0 st1 h0 h1 (does_part to lines st0 st1 r0 r1 h0 h1 does)

-- where a run stops
pub stopped_on : (ti to : Bool) (s0 s1 : Supply) (r : Result Bool Stop) (st0 st1 : Store) (h0 h1 : State) (stop : Stop) → r ≡ Err stop
    → (IsTrue ti → DoesPart to (lines_of s0.left) st0 st1 h0 h1) → LineStops ti to stop s0 s1 st0 st1 h0 h1 → (IsTrue to → h1.err ≡ h0.err) → (IsTrue to → StaysAlone h0 h1) → NoFewerFaults h0 h1
    → RunsOn ti to s0 s1 r st0 st1 h0 h1
stopped_on ti to s0 s1 r st0 st1 h0 h1 stop is part stops silent alone later = subst (λ (o : Result Bool Stop). RunsOn ti to s0 s1 o st0 st1 h0 h1) (sym is) (record {
  ends = stops.cause;
  sound = stops.sound;
  works = λ h fresh. works_part to s0 s1 stop st0 st1 h0 h1 fresh (part h) (λ told. stops.by h told (met_at st1.tally.met) (fresh_met st0 st1 fresh));
  silent = silent;
  alone = alone;
  later = later;
})

-- all bytes are read, with the lines that end in them, and the last
lines_of_all : (to : Bool) (read rest : List ℕ) (st0 st1 : Store) (r0 r1 : Bool) (h0 h1 : State) → Fed to [] read rest st0 st1 r0 r1 h0 h1 → lines_of read ≡ ended_lines read ++ lines_of rest
lines_of_all to read rest st0 st1 r0 r1 h0 h1 fed =
    ap lines_of (sym (append-nil read)) ∙ fed.splits.lines [] ∙ ap (λ (l : List ℕ). ended_lines read ++ lines_of l) (append-nil rest)

-- where its input ends and the last line is answered
finished_ok : (ti to : Bool) (s0 s1 : Supply) (st0 st2 : Store) (refused : Bool) (h0 h2 : State)
    → (IsTrue ti → Does to (lines_of s0.left) st0 st2 false refused h0 h2) → s1.taken ≤ s0.taken + 2 ^ 40 → (IsTrue ti → s1.left ≡ []) → s1.faults ≡ s0.faults
    → SameFaults h0 h2 → IsReady to st2 h2 → (IsTrue to → h2.may_leave h2.folder) → (IsTrue to → h2.err ≡ h0.err) → (IsTrue to → StaysAlone h0 h2) → RunsOn ti to s0 s1 (Ok refused) st0 st2 h0 h2
finished_ok ti to s0 s1 st0 st2 refused h0 h2 does few end calm same ready now silent alone = record {
  ends = record { few = few; ended = end; calm = calm; same = same };
  sound = tt;
  works = λ h fresh.
      let lines = lines_of s0.left in
      let xs = met_at st2.tally.met in
      let done = (does h).all xs (fresh_met st0 st2 fresh) in
      record {
        count = length (statements lines);
        meets = record {
          within = omega arith;
          last = pages_of st2;
          left = tables_of st2;
          meets = subst (λ (ls : List (List ℕ)). Meets 0 (pages_of st0) (tables_of st0) ls st2.tally.met (pages_of st2) (tables_of st2)) (sym (take-length (statements lines)))
              (fresh_meets st0 st2 (statements lines) (does h).added (pages_of st2) (tables_of st2) fresh (does h).counts (does h).meets);
        };
        pages = λ told. running_pages st2 h2 (ready.running told);
        runs = λ told alone. let still = done.alone told alone in record {
          answered = record {
            all = refl;
            out = done.out told;
            is_refused = done.refused;
            rest = running_rests st2 h2 (ready.running told) still (now told);
            settled = running_settled st2 h2 (ready.running told);
            holds = subst (λ (w : World). Holds h2.folder w) done.world (running_holds st2 h2 (ready.running told) still h2.folder (now told));
          };
          moments = done.moments told alone;
        };
      };
  silent = silent;
  alone = alone;
  later = no_fewer_same h0 h2 same;
}

-- where its input ends, and the last line is answered or not
pub finished_on : (ti to : Bool) (s0 s1 : Supply) (r : Result Bool Stop) (h0 h1 h2 : State) (read rest : List ℕ) (st0 st1 st2 : Store) (r1 : Bool)
    → Fed to [] read rest st0 st1 false r1 h0 h1 → Took ti read s0 s1 → (IsTrue ti → s1.left ≡ []) → length read ≤ 2 ^ 40 → s1.faults ≡ s0.faults → SameFaults h0 h1
    → IfOk r (λ refused. Does to (lines_of rest) st1 st2 r1 refused h1 h2) → OnErr r (DoesPart to (lines_of rest) st1 st2 h1 h2) → IfErr r (λ stop. IsLineStop stop h1 h2)
    → OnOk r (SameFaults h1 h2) → OnOk r (IsReady to st2 h2) → NoFewerFaults h1 h2 → (IsTrue to → h2.may_leave h2.folder)
    → RunsOn ti to s0 s1 r st0 st2 h0 h2
finished_on ti to s0 s1 (Ok refused) h0 h1 h2 read rest st0 st1 st2 r1 fed took end few calm same done part cause same_then ready later now =
    let lines = lines_of_all to read rest st0 st1 false r1 h0 h1 fed in
    let does = subst (λ (ls : List (List ℕ)). Does to ls st0 st2 false refused h0 h2) (sym lines)
    (does_more to (ended_lines read) (lines_of rest) st0 st1 st2 false r1 refused h0 h1 h2 fed.does done) in
    let all : IsTrue ti → read ≡ s0.left = λ h. sym (took.bytes_left h ∙ ap (λ (l : List ℕ). read ++ l) (end h) ∙ append-nil read) in
    finished_ok ti to s0 s1 st0 st2 refused h0 h2 (λ h. subst (λ (l : List ℕ). Does to (lines_of l) st0 st2 false refused h0 h2) (all h) does)
    (omega (arith, took.number.no_more, few)) end calm (same_faults_more h0 h1 h2 same same_then) ready now (does_silent to (lines_of read) st0 st2 false refused h0 h2 does)
    (does_alone to (lines_of read) st0 st2 false refused h0 h2 does)
finished_on ti to s0 s1 (Err stop) h0 h1 h2 read rest st0 st1 st2 r1 fed took end few calm same done part cause same_then ready later now =
    let lines = lines_of_all to read rest st0 st1 false r1 h0 h1 fed in
    let does = subst (λ (ls : List (List ℕ)). DoesPart to ls st0 st2 h0 h2) (sym lines)
    (does_then_part to (ended_lines read) (lines_of rest) st0 st1 st2 false r1 h0 h1 h2 fed.does part) in
    let all : IsTrue ti → read ≡ s0.left = λ h. sym (took.bytes_left h ∙ ap (λ (l : List ℕ). read ++ l) (end h) ∙ append-nil read) in
    stopped_on ti to s0 s1 (Err stop) st0 st2 h0 h2 stop refl (λ h. subst (λ (l : List ℕ). DoesPart to (lines_of l) st0 st2 h0 h2) (all h) does)
    (line_stops ti to stop s0 s1 st0 st2 h0 h1 h2 (omega (arith, took.number.no_more, few)) same cause)
    (part_silent to (lines_of read) st0 st2 h0 h2 does) (part_alone to (lines_of read) st0 st2 h0 h2 does) (no_fewer_more h0 h1 h2 (no_fewer_same h0 h1 same) later)

-- on a fresh store, the exceptions are those that it hands out
pub runs_from : (ti to : Bool) (s0 s1 : Supply) (r : Result Bool Stop) (met : List Met) (st0 st1 : Store) (h0 h1 : State)
    → IsFresh st0 → met ≡ st1.tally.met → RunsOn ti to s0 s1 r st0 st1 h0 h1 → RunsFrom ti to s0 s1 r met st0 h0 h1
runs_from ti to s0 s1 r met st0 st1 h0 h1 fresh met_is runs = record {
  ends = runs.ends;
  sound = runs.sound;
  full = λ h. let works = runs.works h fresh in
      subst (All (IsFull (lines_of s0.left) 0 (pages_of st0))) (sym met_is)
      (meets_full 0 (pages_of st0) (tables_of st0) (lines_of s0.left) works.count st1.tally.met works.meets);
  works = λ h. subst (λ (ms : List Met). Works to s0 s1 r ms st0 h0 h1) (sym met_is) (runs.works h fresh);
  silent = runs.silent;
  alone = runs.alone;
  later = runs.later;
}
