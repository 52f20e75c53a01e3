-- A script that is read piece by piece.
use Rattle.std.proofs.Common.{◌≡◌, ℕ, ◌+◌, ◌-◌, ◌^◌, ◌≤◌, min, Bool, List, [], ◌++◌, length, take, refl, sym, ap, subst, ◌∙◌, arith}
use Rattle.std.proofs.lemmas.List.{append_assoc, length-append, length-take-le}
use Rattle.aria_host.specs.State.{State}
use Rattle.aria_model.specs.Script.{lines_of, ended_lines}
use Rattle.aria_model.proofs.Lines.{ended_lines-front}
use Rattle.aria_tools.specs.declared.stop.Stop.{Stop}
use Rattle.aria_host.specs.declared.fault.Fault.TheVariants.{Memory, Disk, LogDamaged, NotOurs, Input, Tell, LogSpent, ControlDamaged, PageDamaged, FileMissing, TooManyTables}
use Rattle.aria_tools.specs.declared.stop.Stop.TheVariants as why
use Rattle.aria_tools.specs.Held.{Splits}
use Rattle.aria_engine.specs.declared.store.Store.{Store}
use Rattle.aria_engine.specs.Store.{SameFaults, NoFewerFaults}
use Rattle.aria_engine.specs.Done.{Does, DoesPart}
use Rattle.aria_engine.proofs.Doing.{does_more, does_part, does_then_part, does_part_more}
use Rattle.aria_tools.specs.Stops.{IsLineStop}
use Rattle.aria_tools.specs.Endings.{Supply, Counts, Took, TookFew}
use Rattle.aria_tools.specs.Pieces.{Fed, TakesPiece, NoPiece}
use Rattle.aria_tools.specs.Sessions.{LineStops}
use Rattle.aria_tools.proofs.Splitting.{splits_more}

-- So much was read; the lines that LF ends in it are answered.
pub record Reached (ti to : Bool) (taken : ℕ) (read rest : List ℕ) (st0 st1 : Store) (r0 r1 : Bool) (h0 h1 : State) (s0 s1 : Supply) : Type 0 where
  pub size : length read ≡ taken
  pub few : taken ≤ 2 ^ 40
  pub took : Took ti read s0 s1
  pub fed : Fed to [] read rest st0 st1 r0 r1 h0 h1
  pub faults : s1.faults ≡ s0.faults
  pub calm : SameFaults h0 h1

pub counts_more : (a b c k n : ℕ) → Counts a k b → Counts b n c → Counts a (k + n) c
counts_more a b c k n first then = record { no_more = omega (arith, first.no_more, then.no_more); no_fewer = fewer a b c k n (2 ^ 128 - 1) first.no_fewer then.no_fewer }
  where
    fewer : (a b c k n m : ℕ) → min (a + k) m ≤ b → min (b + n) m ≤ c → min (a + (k + n)) m ≤ c
    fewer a b c k n m f t = omega arith

pub counts_none : (a : ℕ) → Counts a 0 a
counts_none a = record { no_more = omega arith; no_fewer = fewer a (2 ^ 128 - 1) }
  where
    fewer : (a m : ℕ) → min (a + 0) m ≤ a
    fewer a m = omega arith

pub took_more : (t : Bool) (n taken : ℕ) (read piece : List ℕ) (s0 s1 s2 : Supply) → Took t read s0 s1 → TakesPiece t n taken piece s1 s2 → Took t (read ++ take n piece) s0 s2
took_more t n taken read piece s0 s1 s2 took takes =
    let size : length (read ++ take n piece) ≡ length read + n = length-append read (take n piece) ∙ ap (λ (k : ℕ). length read + k) (length-take-le n piece takes.within) in
    record {
      bytes_left = λ h. took.bytes_left h ∙ ap (λ (l : List ℕ). read ++ l) (takes.bytes h) ∙ sym (append_assoc read (take n piece) s2.left);
      number = subst (λ (k : ℕ). Counts s0.taken k s2.taken) (sym size) (counts_more s0.taken s1.taken s2.taken (length read) n took.number takes.number);
    }

-- The lines that end in the next piece are answered too.
pub fed_more : (t : Bool) (read rest piece held : List ℕ) (st0 st1 st2 : Store) (r0 r1 r2 : Bool) (h0 h1 h2 : State)
    → Fed t [] read rest st0 st1 r0 r1 h0 h1 → Splits (rest ++ piece) held → Does t (ended_lines (rest ++ piece)) st1 st2 r1 r2 h1 h2
    → Fed t [] (read ++ piece) held st0 st2 r0 r2 h0 h2
fed_more t read rest piece held st0 st1 st2 r0 r1 r2 h0 h1 h2 fed splits does = record {
  splits = splits_more read rest piece held fed.splits splits;
  does = subst (λ (ls : List (List ℕ)). Does t ls st0 st2 r0 r2 h0 h2) (sym (fed.splits.ended piece))
      (does_more t (ended_lines read) (ended_lines (rest ++ piece)) st0 st1 st2 r0 r1 r2 h0 h1 h2 fed.does does);
}

-- what was told when a piece wasn't answered to its end is a front of what all lines tell
pub part_of_all : (t : Bool) (read rest piece more all : List ℕ) (st0 st1 st2 : Store) (r0 r1 : Bool) (h0 h1 h2 : State)
    → Fed t [] read rest st0 st1 r0 r1 h0 h1 → all ≡ (read ++ piece) ++ more → DoesPart t (ended_lines (rest ++ piece)) st1 st2 h1 h2 → DoesPart t (lines_of all) st0 st2 h0 h2
part_of_all t read rest piece more all st0 st1 st2 r0 r1 h0 h1 h2 fed is part =
    let front = ended_lines-front (rest ++ piece) more in
    let lines : lines_of all ≡ (ended_lines read ++ ended_lines (rest ++ piece)) ++ front.0 =
    ap lines_of (is ∙ append_assoc read piece more) ∙ fed.splits.lines (piece ++ more)
    ∙ ap (λ (l : List ℕ). ended_lines read ++ lines_of l) (sym (append_assoc rest piece more))
    ∙ ap (λ (ls : List (List ℕ)). ended_lines read ++ ls) front.1
    ∙ sym (append_assoc (ended_lines read) (ended_lines (rest ++ piece)) front.0) in
    subst (λ (ls : List (List ℕ)). DoesPart t ls st0 st2 h0 h2) (sym lines)
    (does_part_more t (ended_lines read ++ ended_lines (rest ++ piece)) front.0 st0 st2 h0 h2
    (does_then_part t (ended_lines read) (ended_lines (rest ++ piece)) st0 st1 st2 r0 r1 h0 h1 h2 fed.does part))

-- and so is what was told between two pieces
pub fed_of_all : (t : Bool) (read rest more all : List ℕ) (st0 st1 : Store) (r0 r1 : Bool) (h0 h1 : State)
    → Fed t [] read rest st0 st1 r0 r1 h0 h1 → all ≡ read ++ more → DoesPart t (lines_of all) st0 st1 h0 h1
fed_of_all t read rest more all st0 st1 r0 r1 h0 h1 fed is =
    subst (λ (ls : List (List ℕ)). DoesPart t ls st0 st1 h0 h1) (sym (ap lines_of is ∙ fed.splits.lines more))
    (does_part_more t (ended_lines read) (lines_of (rest ++ more)) st0 st1 h0 h1 (does_part t (ended_lines read) st0 st1 r0 r1 h0 h1 fed.does))

pub rose_since : (a b c m : ℕ) → b ≡ a → min (b + 1) m ≤ c → min (a + 1) m ≤ c
rose_since a b c m same rose = omega arith

pub took_few : (ti to : Bool) (taken : ℕ) (read rest : List ℕ) (st0 st1 : Store) (r0 r1 : Bool) (h0 h1 : State) (s0 s1 : Supply)
    → Reached ti to taken read rest st0 st1 r0 r1 h0 h1 s0 s1 → TookFew s0 s1
took_few ti to taken read rest st0 st1 r0 r1 h0 h1 s0 s1 reached =
    omega (arith, reached.took.number.no_more, reached.size, reached.few)

-- the cause where no further piece comes
pub no_piece_stops : (ti to : Bool) (stop : Stop) (taken : ℕ) (read rest : List ℕ) (st0 st1 : Store) (r0 r1 : Bool) (h0 h1 : State) (s0 s1 s2 : Supply)
    → Reached ti to taken read rest st0 st1 r0 r1 h0 h1 s0 s1 → NoPiece ti stop taken s1 s2 → LineStops ti to stop s0 s2 st0 st1 h0 h1
no_piece_stops ti to (why.Fault (Memory error)) taken read rest st0 st1 r0 r1 h0 h1 s0 s1 s2 reached none = absurd none
no_piece_stops ti to (why.Fault Disk) taken read rest st0 st1 r0 r1 h0 h1 s0 s1 s2 reached none = absurd none
no_piece_stops ti to (why.Fault (LogDamaged file page)) taken read rest st0 st1 r0 r1 h0 h1 s0 s1 s2 reached none = absurd none
no_piece_stops ti to (why.Fault (NotOurs file)) taken read rest st0 st1 r0 r1 h0 h1 s0 s1 s2 reached none = absurd none
no_piece_stops ti to (why.Fault Tell) taken read rest st0 st1 r0 r1 h0 h1 s0 s1 s2 reached none = absurd none
no_piece_stops ti to (why.Fault (LogSpent file)) taken read rest st0 st1 r0 r1 h0 h1 s0 s1 s2 reached none = absurd none
no_piece_stops ti to (why.Fault ControlDamaged) taken read rest st0 st1 r0 r1 h0 h1 s0 s1 s2 reached none = absurd none
no_piece_stops ti to (why.Fault (PageDamaged file page)) taken read rest st0 st1 r0 r1 h0 h1 s0 s1 s2 reached none = absurd none
no_piece_stops ti to (why.Fault (FileMissing file)) taken read rest st0 st1 r0 r1 h0 h1 s0 s1 s2 reached none = absurd none
no_piece_stops ti to (why.Fault TooManyTables) taken read rest st0 st1 r0 r1 h0 h1 s0 s1 s2 reached none = absurd none
no_piece_stops ti to (why.Fault Input) taken read rest st0 st1 r0 r1 h0 h1 s0 s1 s2 reached none = record {
  cause = (
    subst (λ (n : ℕ). n ≤ s0.taken + 2 ^ 40) (sym none.2) (took_few ti to taken read rest st0 st1 r0 r1 h0 h1 s0 s1 reached),
    rose_since s0.faults s1.faults s2.faults (2 ^ 64 - 1) reached.faults none.0,
  );
  sound = refl;
  by = λ h told xs met. (read, reached.took.bytes_left h ∙ ap (λ (l : List ℕ). read ++ l) (sym none.1), (reached.fed.does.all xs met).out told);
}
no_piece_stops ti to why.TooLong taken read rest st0 st1 r0 r1 h0 h1 s0 s1 s2 reached none =
    let full : length read ≡ 2 ^ 40 = reached.size ∙ none.0 in
    record {
      cause = counts_more s0.taken s1.taken s2.taken (2 ^ 40) 1 (subst (λ (n : ℕ). Counts s0.taken n s1.taken) full reached.took.number) none.1;
      sound = refl;
      by = λ h told xs met. (read, (none.2 h).0, reached.took.bytes_left h ∙ ap (λ (l : List ℕ). read ++ l) (none.2 h).1, full, (reached.fed.does.all xs met).out told);
    }

-- the cause where the execution of a line stops
pub line_stops : (ti to : Bool) (stop : Stop) (s0 s1 : Supply) (st0 st2 : Store) (h0 h1 h2 : State)
    → TookFew s0 s1 → SameFaults h0 h1 → IsLineStop stop h1 h2 → LineStops ti to stop s0 s1 st0 st2 h0 h2
line_stops ti to (why.Fault (Memory error)) s0 s1 st0 st2 h0 h1 h2 few same is = record { cause = few; sound = refl; by = λ h told xs met. tt }
line_stops ti to (why.Fault Disk) s0 s1 st0 st2 h0 h1 h2 few same is = record { cause = (few, rose_since h0.disk_faults h1.disk_faults h2.disk_faults (2 ^ 64 - 1) same.disk is); sound = refl; by = λ h told xs met. tt }
line_stops ti to (why.Fault (LogDamaged file page)) s0 s1 st0 st2 h0 h1 h2 few same is = absurd is
line_stops ti to (why.Fault (NotOurs file)) s0 s1 st0 st2 h0 h1 h2 few same is = absurd is
line_stops ti to (why.Fault Input) s0 s1 st0 st2 h0 h1 h2 few same is = absurd is
line_stops ti to (why.Fault Tell) s0 s1 st0 st2 h0 h1 h2 few same is = record { cause = (few, rose_since h0.tell_faults h1.tell_faults h2.tell_faults (2 ^ 64 - 1) same.tell is); sound = refl; by = λ h told xs met. tt }
line_stops ti to why.TooLong s0 s1 st0 st2 h0 h1 h2 few same is = absurd is
line_stops ti to (why.Fault (LogSpent file)) s0 s1 st0 st2 h0 h1 h2 few same is = absurd is
line_stops ti to (why.Fault ControlDamaged) s0 s1 st0 st2 h0 h1 h2 few same is = absurd is
line_stops ti to (why.Fault (PageDamaged file page)) s0 s1 st0 st2 h0 h1 h2 few same is = absurd is
line_stops ti to (why.Fault (FileMissing file)) s0 s1 st0 st2 h0 h1 h2 few same is = absurd is
line_stops ti to (why.Fault TooManyTables) s0 s1 st0 st2 h0 h1 h2 few same is = absurd is

-- no fault was counted in one run and then another
pub same_faults_more : (a b c : State) → SameFaults a b → SameFaults b c → SameFaults a c
same_faults_more a b c first then = record { disk = then.disk ∙ first.disk; tell = then.tell ∙ first.tell }

pub no_fewer_more : (a b c : State) → NoFewerFaults a b → NoFewerFaults b c → NoFewerFaults a c
no_fewer_more a b c first then = record { disk = omega (arith, first.disk, then.disk); tell = omega (arith, first.tell, then.tell) }

pub no_fewer_same : (a b : State) → SameFaults a b → NoFewerFaults a b
no_fewer_same a b same = record { disk = omega (arith, same.disk); tell = omega (arith, same.tell) }
