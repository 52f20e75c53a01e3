-- What each call does to pages.
use Rattle.std.specs.Prelude.{◌≡◌, ℕ, ◌+◌, ◌<◌, ◌≤◌, Bool, true, false, IsTrue, IsSome, None, Some, List, [], ◌∷◌, ◌++◌, Ok, Err, IfSome, Result, Option}
use Rattle.aria_page.specs.declared.edit.Edit.{Edit}
use Rattle.aria_page.specs.declared.group.RedoKind.{RedoKind}
use Rattle.aria_page.specs.declared.lsn.Lsn.{Lsn}
use Rattle.aria_page.specs.declared.place.Part.{Part}
use Rattle.aria_host.specs.declared.fault.Fault.{Fault}
use Rattle.aria_host.specs.declared.file_name.FileName.{FileName}
use Rattle.aria_host.specs.Folder.{same_file}
use Rattle.aria_record.specs.declared.record.Record.{Record}
use Rattle.aria_record.specs.declared.record.Record.TheVariants.{Redo}
use Rattle.aria_record.specs.Logged.{Logged, lsn_at_place}
use Rattle.aria_cache.specs.PageState.{PageState, Bodies, file_of, with_edits, edits_applied}
use Rattle.aria_cache.specs.Ending.{no_lsn}

-- ---- what stays

-- the slots stay
pub record SameSlots (old new : PageState) : Type 0 where
  pub is_open : new.is_open ≡ old.is_open
  pub name : new.name ≡ old.name

-- the pages stay
pub record SamePages (old new : PageState) : Type 0 where
  pub counts : new.counts ≡ old.counts
  pub bodies : new.bodies ≡ old.bodies
  pub late : new.late ≡ old.late

-- the group that is open stays
pub record SameGroup (old new : PageState) : Type 0 where
  pub in_group : new.in_group ≡ old.in_group
  pub edited : new.edited ≡ old.edited
  pub edits : new.edits ≡ old.edits
  pub touched : new.touched ≡ old.touched
  pub made : new.made ≡ old.made
  pub bytes : new.bytes ≡ old.bytes

-- the log's length and the pending undo records stay
pub record SameLog (old new : PageState) : Type 0 where
  pub pending : new.pending ≡ old.pending
  pub reach : new.reach ≡ old.reach

-- all stays but the open group and the fault that is kept
pub record Rests (old new : PageState) : Type 0 where
  pub slots : SameSlots old new
  pub pages : SamePages old new
  pub log : SameLog old new
  pub loaded : new.loaded ≡ old.loaded
  pub lent : new.lent ≡ old.lent
  pub faults : new.faults ≡ old.faults

-- no file loses pages
pub record Grows (old new : PageState) : Type 0 where
  pub counts : (f : FileName) → old.counts f ≤ new.counts f

-- No page came to be behind the log's end.
pub record FewerLate (old new : PageState) : Type 0 where
  pub late : (f : FileName) (n : ℕ) → IsTrue (new.late f n) → IsTrue (old.late f n)

-- Pages of other files stay. What the open group's edits make of the pages from where it began, the pages are.
pub record StaysIn (logged : Bool) (file : FileName) (old new : PageState) : Type 0 where
  pub others : (f : FileName) → same_file file f ≡ false → new.bodies f ≡ old.bodies f
  pub applies : IsTrue logged → (start : Bodies) → old.bodies ≡ edits_applied old.edits start → new.bodies ≡ edits_applied new.edits start

-- ---- answers

-- the fault that a call answered
abbrev pub fault_of : {T : Type 0} → Result T Fault → Option Fault
fault_of (Ok x) = None
fault_of (Err fault) = Some fault

-- A call keeps the fault that it answers. One that is kept is answered again, and then nothing changes.
pub record Answers (old new : PageState) (fault : Option Fault) : Type 0 where
  pub keeps : new.kept ≡ fault
  pub again : IfSome old.kept (λ kept. fault ≡ Some kept)
  pub still : IsSome old.kept → Rests old new

-- ---- calls

-- At most so many pages are loaded, and nothing else changes.
pub record Loads (tells : Bool) (pages : ℕ) (old new : PageState) : Type 0 where
  pub slots : SameSlots old new
  pub group : SameGroup old new
  pub log : SameLog old new
  pub counts : new.counts ≡ old.counts
  pub bodies : IsTrue tells → new.bodies ≡ old.bodies
  pub late : IsTrue tells → FewerLate old new
  pub lent : new.lent ≤ old.lent + pages

-- The open group may have used so many pages, edits and bytes of the log more.
pub record Spends (p e b : ℕ) (old new : PageState) : Type 0 where
  pub touched : new.touched ≤ old.touched + p
  pub made : new.made ≤ old.made + e
  pub bytes : new.bytes ≤ old.bytes + b

-- There is room in the open group for a page and so many edits.
pub record HasRoom (edits : ℕ) (s : PageState) : Type 0 where
  pub touched : s.touched < 48
  pub made : s.made + edits ≤ 254

-- a page of a slot was edited, as part of the open group
pub record Edits (logged : Bool) (kind : RedoKind) (slot : ℕ) (part : Part) (page : ℕ) (edits : List Edit) (old new : PageState) : Type 0 where
  pub bodies : new.bodies ≡ with_edits (file_of old slot part) page edits old.bodies
  pub late : FewerLate old new
  pub records : IsTrue logged → new.edits ≡ old.edits ++ Redo kind (old.name slot) part page edits ∷ []

-- a group is begun, with no edit
pub record Begins (old new : PageState) : Type 0 where
  pub rests : Rests old new
  pub kept : new.kept ≡ old.kept
  pub in_group : new.in_group ≡ true
  pub edited : new.edited ≡ false
  pub edits : new.edits ≡ []
  pub touched : new.touched ≡ 0
  pub made : new.made ≡ 0
  pub bytes : new.bytes ≡ 0

-- the group is left
pub record Leaves (old new : PageState) : Type 0 where
  pub rests : Rests old new
  pub kept : new.kept ≡ old.kept
  pub in_group : new.in_group ≡ false

-- all stays but the fault that is kept
pub record Stops (fault : Fault) (old new : PageState) : Type 0 where
  pub rests : Rests old new
  pub group : SameGroup old new
  pub kept : new.kept ≡ Some fault

-- Exactly this group was ended, at a place of the log whose number was answered; without a log no number is.
pub record Ended {S : Type 0} (logged : Bool) (ends : S → S → List Logged → Type 0) (group : List Record) (lsn : Lsn) (old new : S) : Type 0 where
  pub at : ℕ
  pub is : IsTrue logged → lsn ≡ lsn_at_place at
  pub none : logged ≡ false → lsn ≡ no_lsn
  pub moves : ends old new (record { at = at; group = group } ∷ [])
