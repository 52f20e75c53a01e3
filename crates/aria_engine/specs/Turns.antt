-- A line's turn: what it does in memory, and how it comes to the disk and is told.
use Rattle.std.specs.Prelude.{◌≡◌, ◌⊎◌, ℕ, ◌+◌, ◌<◌, ◌≤◌, ◌==◌, nat_le, if◌then◌else◌, Bool, true, false, IsTrue, Option, Some, None, List, [], ◌∷◌, ◌++◌, length, take}
use Rattle.aria_host.specs.Folder.{Folder}
use Rattle.aria_host.specs.State.{State, LeavesOnly}
use Rattle.aria_journal.specs.declared.log.Log.{Log as LogValue}
use Rattle.aria_journal.specs.Frames.{IsFrame}
use Rattle.aria_journal.specs.Runs.{HoldsFrames}
use Rattle.aria_journal.specs.Log.{log_file, IsLog}
use Rattle.aria_model.specs.declared.refusal.Exception.{Exception}
use Rattle.aria_model.specs.declared.refusal.Exception.TheVariants.{Spent}
use Rattle.aria_model.specs.declared.reply.Reply.{Reply}
use Rattle.aria_model.specs.Grammar.{is_blank_line}
use Rattle.aria_model.specs.Step.{step}
use Rattle.aria_model.specs.Script.{is_refused, outcome_text, acknowledged}
use Rattle.aria_model.specs.Journal.{is_change}
use Rattle.aria_engine.specs.declared.store.Store.{Store}
use Rattle.aria_engine.specs.declared.tally.Tally.{Tally}
use Rattle.aria_engine.specs.Entries.{is_log_spent, due, entry}
use Rattle.aria_engine.specs.Holds.{IsLogAlone, AreLogAlone}
use Rattle.aria_engine.specs.Store.{tables_of, pages_of}

-- the exception that a statement with this reply met, where the log's last file is given if it has no room
abbrev pub exception_of : Option ℕ → Reply → Option Exception
exception_of None reply = None
exception_of (Some file) reply = if is_log_spent reply then Some (Spent file) else None

-- the number of the log's file, where a log of so many pages has no room
abbrev pub spent_of : ℕ → Option ℕ
spent_of pages = if nat_le 524000 pages then Some 1 else None

-- how many pages the log's file has once all is forced
abbrev pub file_pages : LogValue → ℕ
file_pages log = log.number + (if log.used == 0 then 0 else 1)

-- a statement was counted, and its exception noted
pub record Notes (before now : Tally) (exception : Option Exception) : Type 0 where
  pub count : now.count ≡ before.count + 1
  pub met : now.met ≡ before.met ++ entry before.count exception

-- a statement was counted, and this exception noted; or nothing was noted, and it was counted or not
pub record MayNote (before now : Tally) (exception : Option Exception) : Type 0 where
  pub later : before.count ≤ now.count
  pub noted : (now.met ≡ before.met) ⊎ Notes before now exception

-- The line isn't blank, and was executed in memory: this is to be told, and the line is to be kept or not.
pub record Turned (line : List ℕ) (before now : Store) (refused changed : Bool) : Type 0 where
  pub some : is_blank_line line ≡ false
  pub log : now.log ≡ before.log
  pub exception : Option Exception
  pub is_due : exception ≡ due (pages_of before) (tables_of before) line
  pub notes : Notes before.tally now.tally exception
  pub world : tables_of now ≡ (step (tables_of before) line exception).world
  pub text : now.text ≡ outcome_text (step (tables_of before) line exception)
  pub refused_is : refused ≡ is_refused (step (tables_of before) line exception).reply
  pub acked : (n : ℕ) → acknowledged (take n now.text) ≤ 1
  pub still : changed ≡ false → tables_of now ≡ tables_of before
  pub quiet : refused ≡ true → changed ≡ false
  pub changes : changed ≡ true → (exception ≡ None) × (is_change (tables_of before) line None ≡ true)
  pub frame : changed ≡ true → IsFrame line
  pub room : changed ≡ true → pages_of before < 524000

-- the lines, and one more where it is kept
abbrev pub with_line : Bool → List (List ℕ) → List ℕ → List (List ℕ)
with_line true lines line = lines ++ line ∷ []
with_line false lines line = lines

-- the log's file holds the lines of before or of after
abbrev pub HoldsEither : Option (List (List ℕ)) → List (List ℕ) → List (List ℕ) → Type 0
HoldsEither content before after = HoldsFrames content before ⊎ HoldsFrames content after

-- A crash leaves no file but the log's. It holds the lines as they were, with nothing more told, or those after, with a part of the text told.
pub record LeavesLines (before after : List (List ℕ)) (out text : List ℕ) (c : Folder) (b : List ℕ) : Type 0 where
  pub alone : IsLogAlone c
  pub either : (HoldsFrames (c log_file) before × (b ≡ out)) ⊎ (HoldsFrames (c log_file) after × (n : ℕ) × (b ≡ out ++ take n text))

-- The log came from these lines to those, which are on the disk, and then the text was told.
pub record Completes (before after : List (List ℕ)) (text : List ℕ) (log : LogValue) (old new : State) (done : Bool) : Type 0 where
  pub log_is : IsTrue done → IsLog log new after (length after)
  pub whole : IsTrue done → new.out ≡ old.out ++ text
  pub part : (n : ℕ) × (new.out ≡ old.out ++ take n text)
  pub err : new.err ≡ old.err
  pub alone : AreLogAlone old → AreLogAlone new
  pub moments : AreLogAlone old → LeavesOnly old new (LeavesLines before after old.out text)

-- The line is blank, and nothing was executed.
pub record Passed (line : List ℕ) (before now : Store) : Type 0 where
  pub blank : is_blank_line line ≡ true
  pub log : now.log ≡ before.log
  pub tally : now.tally ≡ before.tally
  pub world : tables_of now ≡ tables_of before
