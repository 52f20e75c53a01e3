-- A folder is looked at: what its steps come to.
use Rattle.std.proofs.Common.{◌≡◌, ◌∙◌, ◌⊎◌, inl, inr, Result, Ok, ℕ, Bool, true, List, ap, sym, refl, subst}
use Rattle.std.specs.Prelude.{IsTrue}
use Rattle.aria_page.specs.declared.lsn.Lsn.{Lsn}
use Rattle.aria_host.specs.declared.fault.Fault.{Fault}
use Rattle.aria_host.specs.declared.fault.Fault.TheVariants.{Memory, Disk, Tell, Input, PageDamaged, LogDamaged, LogSpent, ControlDamaged, NotOurs, FileMissing, TooManyTables}
use Rattle.aria_host.specs.declared.file_name.FileName.{FileName}
use Rattle.aria_host.specs.declared.file_name.FileName.TheVariants as files
use Rattle.aria_host.specs.Folder.{Folder}
use Rattle.aria_host.specs.State.{State}
use Rattle.aria_host.specs.Calls.{Narrows}
use Rattle.aria_control.specs.declared.control.Control.{Control}
use Rattle.aria_control.specs.declared.found.Found.{Found as ControlFound}
use Rattle.aria_control.specs.declared.found.Found.TheVariants.{Fresh, Kept}
use Rattle.aria_control.specs.Found.{Answers, Fails}
use Rattle.aria_record.specs.Logged.{Logged, lsn_at_place}
use Rattle.aria_log.specs.declared.log.Log.{Log as LogValue}
use Rattle.aria_log.specs.Log.{IsOpened}
use Rattle.aria_recovery.specs.Redo.{number_at}
use Rattle.aria_recovery.specs.Images.{page_of}
use Rattle.aria_pager.specs.PageStore.{late_seen}
use Rattle.aria_pager.specs.Steps.{damaged_at}
use Rattle.aria_pager.specs.declared.find.Found.{Found}
use Rattle.aria_pager.specs.declared.look.Looked.{Looked}
use Rattle.aria_pager.specs.declared.look.Looked.TheVariants as looked
use Rattle.aria_pager.specs.Entered.{LacksOne, AreMany, AreListed}
use Rattle.aria_pager.specs.Prepared.{AreAllListed}
use Rattle.aria_pager.specs.Found.{HasOwn, Holds, IsFresh, IsFoundAs, MayBegin}
use Rattle.aria_pager.specs.Inspected.{LooksAt, IsLookedAt}
use Rattle.aria_pager.specs.Resting.{OfLook, OfEditedPage}
use Rattle.aria_pager.specs.Opening.{IsLateFault, OfRedonePage, OfGroups, OfFolder}
use Rattle.aria_pager.proofs.LogRead.{opened_end}

late_fault : (log : LogValue) (folder : Folder) (fault : Fault) → OfLook true log folder fault → IsLateFault true fault
late_fault log folder (Memory e) is = tt
late_fault log folder Disk is = tt
late_fault log folder TooManyTables is = tt
late_fault log folder (PageDamaged f n) is = tt
late_fault log folder (LogDamaged f n) is = tt
late_fault log folder (FileMissing f) (inl is) = let (name, part, same, none) = is refl in inr (name, part, same)
late_fault log folder (FileMissing f) (inr is) = absurd is
late_fault log folder Tell (inl (inl e)) = absurd (cc)
late_fault log folder Tell (inl (inr (inl e))) = absurd (cc)
late_fault log folder Tell (inl (inr (inr e))) = absurd (cc)
late_fault log folder Tell (inr is) = absurd is
late_fault log folder Input (inl (inl e)) = absurd (cc)
late_fault log folder Input (inl (inr (inl e))) = absurd (cc)
late_fault log folder Input (inl (inr (inr e))) = absurd (cc)
late_fault log folder Input (inr is) = absurd is
late_fault log folder (LogSpent n) (inl (inl e)) = absurd (cc)
late_fault log folder (LogSpent n) (inl (inr (inl e))) = absurd (cc)
late_fault log folder (LogSpent n) (inl (inr (inr e))) = absurd (cc)
late_fault log folder (LogSpent n) (inr is) = absurd is
late_fault log folder ControlDamaged (inl (inl e)) = absurd (cc)
late_fault log folder ControlDamaged (inl (inr (inl e))) = absurd (cc)
late_fault log folder ControlDamaged (inl (inr (inr e))) = absurd (cc)
late_fault log folder ControlDamaged (inr is) = absurd is
late_fault log folder (NotOurs f) (inl (inl e)) = absurd (cc)
late_fault log folder (NotOurs f) (inl (inr (inl e))) = absurd (cc)
late_fault log folder (NotOurs f) (inl (inr (inr e))) = absurd (cc)
late_fault log folder (NotOurs f) (inr is) = absurd is

-- why a look ends
pub of_looked : (tells : Bool) (log : LogValue) (s : State) (base : ℕ) (groups : List Logged) (last : ℕ) (fault : Fault) → IsTrue tells → IsOpened log s base groups last → OfLook tells log s.folder fault
    → LacksOne groups s.folder fault → AreMany groups fault → OfEditedPage tells log groups s.folder fault → OfGroups base groups s.folder s.folder fault
of_looked tells log s base groups last fault told opened why missing many edited = record {
  late = late_fault log s.folder fault (subst (λ (b : Bool). OfLook b log s.folder fault) told why);
  missing = missing;
  many = many;
  page = by fault edited;
}
  where
    by : (f : Fault) → OfEditedPage tells log groups s.folder f → OfRedonePage base groups s.folder s.folder f
    by (PageDamaged f n) (sp, is, file_is, page_is, none) = (sp, is, file_is, page_is, none told)
    by (LogDamaged f n) (sp, is, at, late) =
        let (end, holds, same) = opened_end log s base groups last opened in
        (sp, is, end, holds, at ∙ ap (λ (p : ℕ). damaged_at (lsn_at_place p)) same, sym (ap (λ (p : ℕ). late_seen (number_at p) (page_of s.folder sp.name sp.part sp.page)) same) ∙ late told)
    by f is = tt

-- the index file of each table of which nothing is told is listed exactly where it is there
pub listed_all : (names : List FileName) (folder : Folder) (groups : List Logged) → AreAllListed names folder → AreListed names folder groups
listed_all names folder groups listed name last = listed (files.Keys name) refl

-- ---- behind what was found

abbrev answer : ControlFound → Result ControlFound Fault
answer found = Ok found

-- it is the control file's own answer, and there is no other
abbrev OnlyKept : Control → Folder → Type 0
OnlyKept control folder = (other : Result ControlFound Fault) → Answers other folder → Fails (answer (Kept control)) ⊎ (other ≡ answer (Kept control))

not_fresh : (control : Control) (folder : Folder) → OnlyKept control folder → IsFresh folder → ⊥
not_fresh control folder only fresh = by (only (answer Fresh) fresh)
  where
    by : Fails (answer (Kept control)) ⊎ (answer Fresh ≡ answer (Kept control)) → ⊥
    by (inl fails) = fails
    by (inr same) = absurd (cc)

module _ (control : Control) (value : Found) (s t u : State) (checkpoint : Lsn) (base : ℕ) (groups : List Logged) (first : Narrows s t) (only : OnlyKept control s.folder)
    (begins : MayBegin t u) (is : IsFoundAs value t u checkpoint base groups) where
  fresh_not : IsFresh t.folder → ⊥
  fresh_not fresh = not_fresh control s.folder only (subst IsFresh first.folder fresh)

  -- nothing is made
  pub found_narrows : Narrows t u
  found_narrows = by begins
    where
      by : MayBegin t u → Narrows t u
      by (inl same) = same
      by (inr begun) = absurd (fresh_not begun.fresh)

  same_folder : u.folder ≡ s.folder
  same_folder = found_narrows.folder ∙ first.folder

  own : HasOwn s.folder checkpoint base groups
  own = subst (λ (d : Folder). HasOwn d checkpoint base groups) first.folder (by is.own)
    where
      by : Holds t.folder checkpoint base groups → HasOwn t.folder checkpoint base groups
      by (inl own) = own
      by (inr (fresh, a, b, c)) = absurd (fresh_not fresh)

  pub looked_all : (new : State) (looked : Looked) → LooksAt u.folder new base groups looked → IsLookedAt s new looked
  looked_all new looked.Fresh looks = absurd looks
  looked_all new (looked.Settled store) looks = record { checkpoint = checkpoint; base = base; groups = groups; own = own; chained = is.chained; looks = subst (λ (d : Folder). LooksAt d new base groups (looked.Settled store)) same_folder looks }
  looked_all new (looked.Needs end) looks = record { checkpoint = checkpoint; base = base; groups = groups; own = own; chained = is.chained; looks = subst (λ (d : Folder). LooksAt d new base groups (looked.Needs end)) same_folder looks }

  pub why_all : (new : Folder) (fault : Fault) → OfGroups base groups u.folder new fault → OfFolder s.folder new fault
  why_all new fault why = inr (record { checkpoint = checkpoint; base = base; groups = groups; own = inl own; why = subst (λ (d : Folder). OfGroups base groups d new fault) same_folder why })
