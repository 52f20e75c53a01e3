-- What a line that was executed does to a store, to what is told, and to what a crash may leave.
use Rattle.std.proofs.Common.{◌≡◌, inl, inr, ⊎_elim, ℕ, ◌+◌, ◌/◌, ◌<◌, ◌≤◌, Bool, true, false, IsTrue, ◌&&◌, cond, nat_lt, Option, Some, None, List, [], ◌∷◌, ◌++◌, length, take, refl, sym, ◌∙◌, ap, subst, arith, add-zero}
use Rattle.std.specs.Prelude.{not, All, Result, Ok, Err, OnErr}
use Rattle.std.specs.List.{list_all, list_any, flat_map}
use Rattle.std.proofs.lemmas.List.{append-nil}
use Rattle.std.proofs.lemmas.List.Elements.{All-nil, All-cons}
use Rattle.std.proofs.lemmas.Bool.{cases_Bool}
use Rattle.std.proofs.lemmas.Bool.Decides.{nat_tests}
use Rattle.std.proofs.Math.Bool.{or-false}
use Rattle.std.proofs.Math.Seq.{take-length}
use Rattle.aria_host.specs.State.{Folder, State}
use Rattle.aria_host.proofs.Moments.{started, weakened}
use Rattle.aria_journal.specs.Runs.{HoldsFrames}
use Rattle.aria_journal.specs.Log.{log_file, IsLog}
use Rattle.aria_model.specs.declared.refusal.Exception.{Exception}
use Rattle.aria_model.specs.declared.refusal.Met.{Met}
use Rattle.aria_model.specs.World.{World, empty_world}
use Rattle.aria_model.specs.Grammar.{is_blank_line}
use Rattle.aria_model.specs.Step.{Outcome, step}
use Rattle.aria_model.specs.Script.{Exceptions, no_exception, statements, outcomes, world_after, after, told, told_first, any_refused, acknowledged, is_refused, outcome_text}
use Rattle.aria_model.specs.Journal.{is_change, first_no_change, met_at}
use Rattle.aria_model.proofs.Scripts.{world_after-append}
use Rattle.aria_model.proofs.Journal.{first_no_change-push, met_at-last, met_at-other, met_at-past}
use Rattle.aria_engine.specs.declared.store.Store.{Store}
use Rattle.aria_engine.specs.declared.tally.Tally.{Tally}
use Rattle.aria_engine.specs.Entries.{due, entry, Meets, MeetsFirst}
use Rattle.aria_engine.specs.Holds.{Holds}
use Rattle.aria_engine.specs.Store.{tables_of, count_of, met_of, pages_of, IsRunning}
use Rattle.aria_engine.specs.Done.{Leaves, AreMet, Counts, DonePart, Does, DoesPart}
use Rattle.aria_engine.specs.Turns.{Notes, MayNote, Turned, Passed, with_line, file_pages, LeavesLines, Completes}
use Rattle.aria_engine.proofs.Running.{holds_lines}
use Rattle.aria_engine.proofs.Tallying.{counts_same}
use Rattle.aria_engine.proofs.Meeting.{meets_one, meets_all, meets_no_first}
use Rattle.aria_engine.proofs.Stepping.{blank_due}
use Rattle.aria_engine.proofs.Leaving.{leaves_none}
use Rattle.aria_engine.proofs.Doing.{HoldsNow}

-- ---- the entries of exceptions

below_count : (count : ℕ) (mets : List Met) → IsTrue (list_all (λ m. nat_lt m.nth count) mets) → All (λ m. m.nth < count) mets
below_count count [] is = All-nil (λ (m : Met). m.nth < count)
below_count count (m ∷ mets) is =
    let both = parts (nat_lt m.nth count) (list_all (λ (x : Met). nat_lt x.nth count) mets) is in
    let low : m.nth < count = lower m.nth both.0 in
    All-cons (λ (x : Met). x.nth < count) m mets low (below_count count mets both.1)
  where
    parts : (a b : Bool) → (a && b) ≡ true → (a ≡ true) × (b ≡ true)
    parts true b is = (refl, is)
    parts false b is = absurd (cc)

    lower : (n : ℕ) → nat_lt n count ≡ true → n < count
    lower n is = grind (arith, nat_tests)

-- a statement's own entry is its exception
entry_here : (count : ℕ) (mets : List Met) (x : Option Exception) → IsTrue (list_all (λ m. nat_lt m.nth count) mets) → met_at (mets ++ entry count x) count ≡ x
entry_here count mets None numbered = ap (λ (ms : List Met). met_at ms count) (append-nil mets) ∙ met_at-past mets count (below_count count mets numbered)
entry_here count mets (Some why) numbered = met_at-last mets (record { nth = count; why = why }) count refl

-- and counts for no earlier one
entry_before : (count k : ℕ) (mets : List Met) (x : Option Exception) → k < count → met_at (mets ++ entry count x) k ≡ met_at mets k
entry_before count k mets None low = ap (λ (ms : List Met). met_at ms k) (append-nil mets)
entry_before count k mets (Some why) low = met_at-other mets (record { nth = count; why = why }) k (λ (e : count ≡ k). omega arith)

-- a statement was counted, and its exception noted
counts_noted : (before now : Store) (x : Option Exception) → Notes before.tally now.tally x → Counts before now (entry (count_of before) x)
counts_noted before now x notes = record {
  later = omega (arith, notes.count);
  kept = λ k low. ap (λ (ms : List Met). met_at ms k) notes.met ∙ entry_before (count_of before) k before.tally.met x low;
  met_is = notes.met;
}

-- nothing was noted, and a statement was counted or not
counts_kept : (before now : Store) → count_of before ≤ count_of now → now.tally.met ≡ before.tally.met → Counts before now []
counts_kept before now later met = record {
  later = later;
  kept = λ k low. ap (λ (ms : List Met). met_at ms k) met;
  met_is = met ∙ sym (append-nil before.tally.met);
}

-- nothing was told, and the folder is as it was
silent : (tells : Bool) (xs : Exceptions) (lines : List (List ℕ)) (answered : ℕ) (before : Store) (s : State) → HoldsNow tells before s → DonePart tells xs lines answered (tables_of before) s s
silent tells xs lines answered before s here = record {
  out = λ h. (0, sym (append-nil s.out));
  err = λ h. refl;
  moments = λ h was. started s (Leaves (tables_of before) lines xs s.out) (λ c t since. let is = here h was c t since in leaves_none (tables_of before) lines xs s.out c t is.0 is.1);
}

-- the one statement that a line is, and its exception
meets_line : (line : List ℕ) (before : Store) (x : Option Exception) (last : ℕ) (left : World) → is_blank_line line ≡ false → x ≡ due (pages_of before) (tables_of before) line
    → pages_of before ≤ last → last ≤ pages_of before + (length line / 8176 + 2) → left ≡ (step (tables_of before) line x).world
    → Meets (count_of before) (pages_of before) (tables_of before) (statements (line ∷ [])) (entry (count_of before) x) last left
meets_line line before x last left some is rises within left_is =
    let here : statements (line ∷ []) ≡ line ∷ [] = ap (λ (b : Bool). cond (not b) (line ∷ []) []) some in
    subst (λ (ls : List (List ℕ)). Meets (count_of before) (pages_of before) (tables_of before) ls (entry (count_of before) x) last left) (sym here)
    (meets_one (count_of before) (pages_of before) (tables_of before) line x last left is rises within left_is)

meets_first_line : (line : List ℕ) (before : Store) (x : Option Exception) → is_blank_line line ≡ false → x ≡ due (pages_of before) (tables_of before) line
    → MeetsFirst (count_of before) (pages_of before) (tables_of before) (statements (line ∷ [])) 1 (entry (count_of before) x)
meets_first_line line before x some is =
    let size : length (statements (line ∷ [])) ≡ 1 = ap (λ (b : Bool). length (cond (not b) (line ∷ []) [])) some in
    subst (λ (n : ℕ). MeetsFirst (count_of before) (pages_of before) (tables_of before) (statements (line ∷ [])) n (entry (count_of before) x)) size
    (meets_all (count_of before) (pages_of before) (tables_of before) (statements (line ∷ [])) (entry (count_of before) x) (pages_of before) (step (tables_of before) line x).world
    (meets_line line before x (pages_of before) (step (tables_of before) line x).world some is (omega arith) (omega arith) refl))

-- A statement was counted, its exception noted or not, and nothing was told.
pub does_noted : (tells : Bool) (line : List ℕ) (before now : Store) (s : State) → MayNote before.tally now.tally (due (pages_of before) (tables_of before) line) → HoldsNow tells before s
    → DoesPart tells (line ∷ []) before now s s
does_noted tells line before now s noted here =
    ⊎_elim unnoted (λ (notes : Notes before.tally now.tally x). elim (cases_Bool (is_blank_line line)) [
      | inl blank ↦ unnoted (notes.met ∙ ap (λ (y : Option Exception). before.tally.met ++ entry (count_of before) y) (blank_due (tables_of before) line (pages_of before) blank) ∙ append-nil before.tally.met)
      | inr some ↦ record {
        added = entry (count_of before) x;
        counts = counts_noted before now x notes;
        answered = 1;
        meets = meets_first_line line before x some refl;
        all = λ xs met. silent tells xs (line ∷ []) 1 before s here;
      }
    ]) noted.noted
  where
    x : Option Exception
    x = due (pages_of before) (tables_of before) line

    unnoted : now.tally.met ≡ before.tally.met → DoesPart tells (line ∷ []) before now s s
    unnoted met = record {
      added = [];
      counts = counts_kept before now noted.later met;
      answered = 0;
      meets = meets_no_first (count_of before) (pages_of before) (tables_of before) (statements (line ∷ []));
      all = λ xs met. silent tells xs (line ∷ []) 0 before s here;
    }

-- ---- a blank line

pub does_blank : (tells : Bool) (line : List ℕ) (before now : Store) (s : State) → Passed line before now → HoldsNow tells before s → Does tells (line ∷ []) before now false false s s
does_blank tells line before now s passed here =
    let none : statements (line ∷ []) ≡ [] = ap (λ (b : Bool). cond (not b) (line ∷ []) []) passed.blank in
    let count : count_of now ≡ count_of before = ap (λ (t : Tally). t.count) passed.tally in
    let pages : pages_of now ≡ pages_of before = ap file_pages passed.log in
    let size : length (statements (line ∷ [])) ≡ 0 = ap length none in
    record {
      added = [];
      counts = counts_same before now passed.tally;
      count = omega (arith, count, size);
      meets = subst (λ (ls : List (List ℕ)). Meets (count_of before) (pages_of before) (tables_of before) ls [] (pages_of now) (tables_of now)) (sym none) (refl, pages, passed.world);
      all = λ xs met.
          let w = tables_of before in
          let nothing : told w (line ∷ []) xs ≡ [] = ap (λ (ls : List (List ℕ)). flat_map outcome_text (outcomes w ls xs)) none in
          let few : acknowledged (told w (line ∷ []) xs) ≡ 0 = ap acknowledged nothing in
          record {
            world = passed.world ∙ ap (λ (ls : List (List ℕ)). world_after w ls xs) (sym none);
            refused = ap (λ (ls : List (List ℕ)). list_any (λ (o : Outcome). is_refused o.reply) (outcomes w ls xs)) (sym none);
            acked = omega (arith, few);
            out = λ h. sym (append-nil s.out) ∙ ap (λ (t : List ℕ). s.out ++ t) (sym nothing);
            err = λ h. refl;
            alone = λ h was. was;
            moments = λ h was. started s (Leaves w (line ∷ []) xs s.out) (λ c t since. let is = here h was c t since in leaves_none w (line ∷ []) xs s.out c t is.0 is.1);
          };
    }

-- ---- a statement

-- the lines of the log all change tables still
lines_change : (w : World) (lines : List (List ℕ)) (line : List ℕ) (changed : Bool) → first_no_change empty_world lines ≡ None → w ≡ world_after empty_world lines no_exception
    → (changed ≡ true → is_change w line None ≡ true) → first_no_change empty_world (with_line changed lines line) ≡ None
lines_change w lines line true none is change = first_no_change-push empty_world lines line none (ap (λ (v : World). is_change v line None) (sym is) ∙ change refl)
lines_change w lines line false none is change = none

-- and leave the new tables
lines_leave : (w new : World) (lines : List (List ℕ)) (line : List ℕ) (changed : Bool) → w ≡ world_after empty_world lines no_exception
    → (changed ≡ true → new ≡ (step w line None).world) → (changed ≡ false → new ≡ w) → new ≡ world_after empty_world (with_line changed lines line) no_exception
lines_leave w new lines line true is change still =
    change refl ∙ ap (λ (v : World). (step v line None).world) is ∙ sym (world_after-append empty_world lines (line ∷ []) no_exception)
lines_leave w new lines line false is change still = still refl ∙ is

turned_change : (line : List ℕ) (before now : Store) (refused changed : Bool) (lines : List (List ℕ)) → Turned line before now refused changed
    → first_no_change empty_world lines ≡ None → tables_of before ≡ world_after empty_world lines no_exception → first_no_change empty_world (with_line changed lines line) ≡ None
turned_change line before now refused changed lines t none is = lines_change (tables_of before) lines line changed none is (λ h. (t.changes h).1)

turned_leave : (line : List ℕ) (before now : Store) (refused changed : Bool) (lines : List (List ℕ)) → Turned line before now refused changed
    → tables_of before ≡ world_after empty_world lines no_exception → tables_of now ≡ world_after empty_world (with_line changed lines line) no_exception
turned_leave line before now refused changed lines t is =
    lines_leave (tables_of before) (tables_of now) lines line changed is
    (λ h. t.world ∙ ap (λ (x : Option Exception). (step (tables_of before) line x).world) (t.changes h).0) t.still

-- the store runs on
pub runs_on : (line : List ℕ) (before now final : Store) (refused changed : Bool) (s0 s1 : State) (running : IsRunning before s0) → Turned line before now refused changed
    → tables_of final ≡ tables_of now → IsLog final.log s1 (with_line changed running.lines line) (length (with_line changed running.lines line)) → IsRunning final s1
runs_on line before now final refused changed s0 s1 running t same log = record {
  lines = with_line changed running.lines line;
  log = log;
  changes = turned_change line before now refused changed running.lines t running.changes running.tables;
  tables = same ∙ turned_leave line before now refused changed running.lines t running.tables;
}

-- what the one statement does
record One (w new : World) (line text : List ℕ) (xs : Exceptions) (refused : Bool) : Type 0 where
  size : length (statements (line ∷ [])) ≡ 1
  told_is : told w (line ∷ []) xs ≡ text
  first_told : told_first w (line ∷ []) xs 1 ≡ text
  world : new ≡ world_after w (statements (line ∷ [])) xs
  first : new ≡ after w (line ∷ []) xs 1
  refused_is : refused ≡ any_refused w (line ∷ []) xs
  acked : (n : ℕ) → acknowledged (take n text) ≤ 1

-- the exception that the statement met is the first
first_met : (before final : Store) (x : Option Exception) (xs : Exceptions) → Notes before.tally final.tally x → AreMet xs (count_of before) final → xs 0 ≡ x
first_met before final x xs notes met =
    let low : count_of before + 0 < count_of final = omega (arith, notes.count) in
    met 0 low ∙ ap (met_of final) (add-zero (count_of before)) ∙ ap (λ (ms : List Met). met_at ms (count_of before)) notes.met
    ∙ entry_here (count_of before) before.tally.met x before.tally.numbered

one_of : (line : List ℕ) (before now final : Store) (refused changed : Bool) (xs : Exceptions) → Turned line before now refused changed → final.tally ≡ now.tally → AreMet xs (count_of before) final
    → One (tables_of before) (tables_of now) line now.text xs refused
one_of line before now final refused changed xs t same met =
    let w = tables_of before in
    let x : Option Exception = t.exception in
    let here : statements (line ∷ []) ≡ line ∷ [] = ap (λ (b : Bool). cond (not b) (line ∷ []) []) t.some in
    let notes : Notes before.tally final.tally x = subst (λ (y : Tally). Notes before.tally y x) (sym same) t.notes in
    let first : xs 0 ≡ x = first_met before final x xs notes met in
    let text : outcome_text (step w line (xs 0)) ++ [] ≡ now.text = append-nil (outcome_text (step w line (xs 0))) ∙ ap (λ (y : Option Exception). outcome_text (step w line y)) first ∙ sym t.text in
    let new : tables_of now ≡ (step w line (xs 0)).world = t.world ∙ ap (λ (y : Option Exception). (step w line y).world) (sym first) in
    record {
      size = ap length here;
      told_is = ap (λ (ls : List (List ℕ)). flat_map outcome_text (outcomes w ls xs)) here ∙ text;
      first_told = ap (λ (ls : List (List ℕ)). flat_map outcome_text (outcomes w (take 1 ls) xs)) here ∙ text;
      world = new ∙ ap (λ (ls : List (List ℕ)). world_after w ls xs) (sym here);
      first = new ∙ ap (λ (ls : List (List ℕ)). world_after w (take 1 ls) xs) (sym here);
      refused_is = t.refused_is ∙ ap (λ (y : Option Exception). is_refused (step w line y).reply) (sym first) ∙ sym (or-false (is_refused (step w line (xs 0)).reply))
          ∙ ap (λ (ls : List (List ℕ)). list_any (λ (o : Outcome). is_refused o.reply) (outcomes w ls xs)) (sym here);
      acked = t.acked;
    }

-- what a crash leaves of the log is what the line leaves
leaving : (line : List ℕ) (before now : Store) (refused changed : Bool) (lines : List (List ℕ)) (xs : Exceptions) (out : List ℕ) → Turned line before now refused changed
    → first_no_change empty_world lines ≡ None → tables_of before ≡ world_after empty_world lines no_exception
    → One (tables_of before) (tables_of now) line now.text xs refused → (c : Folder) (b : List ℕ)
    → LeavesLines lines (with_line changed lines line) out now.text c b → Leaves (tables_of before) (line ∷ []) xs out c b
leaving line before now refused changed lines xs out t none is one c b left =
    ⊎_elim
    (λ early. leaves_none (tables_of before) (line ∷ []) xs out c b early.1 (holds_lines c lines (tables_of before) left.alone early.0.frames_are early.0.sound none is))
    (λ (late : HoldsFrames (c log_file) (with_line changed lines line) × (n : ℕ) × (b ≡ out ++ take n now.text)).
    let n = late.1 in
    let part : take n now.text ≡ take n (told_first (tables_of before) (line ∷ []) xs 1) = ap (take n) (sym one.first_told) in
    let holds : Holds c (tables_of now) = holds_lines c (with_line changed lines line) (tables_of now) left.alone late.0.frames_are late.0.sound
    (turned_change line before now refused changed lines t none is) (turned_leave line before now refused changed lines t is) in
    record {
      count = 1;
      within = omega (arith, one.size);
      part = n;
      told_is = late.2 ∙ ap (λ (p : List ℕ). out ++ p) part;
      acked = subst (λ (p : List ℕ). acknowledged p ≤ 1) part (one.acked n);
      holds = subst (λ (v : World). Holds c v) one.first holds;
    })
    left.either

-- the line was done
pub does_turned : (tells : Bool) (line : List ℕ) (before now final : Store) (refused changed : Bool) (s0 s1 : State) → Turned line before now refused changed
    → final.tally ≡ now.tally → tables_of final ≡ tables_of now → file_pages now.log ≤ file_pages final.log → file_pages final.log ≤ file_pages now.log + (length line / 8176 + 2)
    → (running : IsTrue tells → IsRunning before s0)
    → ((h : IsTrue tells) → Completes (running h).lines (with_line changed (running h).lines line) now.text final.log s0 s1 true)
    → Does tells (line ∷ []) before final false refused s0 s1
does_turned tells line before now final refused changed s0 s1 t same tables rises pages running completes =
    let here : statements (line ∷ []) ≡ line ∷ [] = ap (λ (b : Bool). cond (not b) (line ∷ []) []) t.some in
    let size : length (statements (line ∷ [])) ≡ 1 = ap length here in
    let count : count_of final ≡ count_of before + 1 = ap (λ (y : Tally). y.count) same ∙ t.notes.count in
    let was : file_pages now.log ≡ pages_of before = ap file_pages t.log in
    record {
      added = entry (count_of before) t.exception;
      counts = counts_noted before final t.exception (record { count = count; met = ap (λ (y : Tally). y.met) same ∙ t.notes.met });
      count = omega (arith, count, size);
      meets = meets_line line before t.exception (pages_of final) (tables_of final) t.some t.is_due (omega (arith, rises, was)) (omega (arith, pages, was)) (tables ∙ t.world);
      all = λ xs met.
          let one = one_of line before now final refused changed xs t same met in
          let w = tables_of before in
          let few : acknowledged (told w (line ∷ []) xs) ≤ 1 = subst (λ (p : List ℕ). acknowledged p ≤ 1) (take-length now.text ∙ sym one.told_is) (one.acked (length now.text)) in
          record {
            world = tables ∙ one.world;
            refused = one.refused_is;
            acked = omega (arith, few, size);
            out = λ h. (completes h).whole refl ∙ ap (λ (p : List ℕ). s0.out ++ p) (sym one.told_is);
            err = λ h. (completes h).err;
            alone = λ h. (completes h).alone;
            moments = λ h alone. weakened s0 s1 (LeavesLines (running h).lines (with_line changed (running h).lines line) s0.out now.text) (Leaves w (line ∷ []) xs s0.out)
                ((completes h).moments alone) (leaving line before now refused changed (running h).lines xs s0.out t (running h).changes (running h).tables one);
          };
    }

-- a part of it was done
pub does_part_turned : (tells : Bool) (line : List ℕ) (before now final : Store) (refused changed : Bool) (s0 s1 : State) → Turned line before now refused changed
    → final.tally ≡ now.tally
    → (running : IsTrue tells → IsRunning before s0)
    → ((h : IsTrue tells) → Completes (running h).lines (with_line changed (running h).lines line) now.text final.log s0 s1 false)
    → DoesPart tells (line ∷ []) before final s0 s1
does_part_turned tells line before now final refused changed s0 s1 t same running completes =
    let count : count_of final ≡ count_of before + 1 = ap (λ (y : Tally). y.count) same ∙ t.notes.count in
    record {
      added = entry (count_of before) t.exception;
      counts = counts_noted before final t.exception (record { count = count; met = ap (λ (y : Tally). y.met) same ∙ t.notes.met });
      answered = 1;
      meets = meets_first_line line before t.exception t.some t.is_due;
      all = λ xs met.
          let one = one_of line before now final refused changed xs t same met in
          let w = tables_of before in
          record {
            out = λ h. let part = (completes h).part in (part.0, part.1 ∙ ap (λ (p : List ℕ). s0.out ++ take part.0 p) (sym one.first_told));
            err = λ h. (completes h).err;
            moments = λ h alone. weakened s0 s1 (LeavesLines (running h).lines (with_line changed (running h).lines line) s0.out now.text) (Leaves w (line ∷ []) xs s0.out)
                ((completes h).moments alone) (leaving line before now refused changed (running h).lines xs s0.out t (running h).changes (running h).tables one);
          };
    }

-- a fact that holds whatever the error
pub on_err : {T E : Type 0} {P : Type 0} (r : Result T E) → P → OnErr r P
on_err (Ok x) p = tt
on_err (Err e) p = p
