-- A folder that needs no recovery, and what a look at it finds.
use Rattle.std.specs.Prelude.{⊤, ◌≡◌, ◌⊎◌, ◌&&◌, ◌≤◌, not, ℕ, Bool, true, false, IsTrue, Option, None, Some, is_some, MatchOption, List, [], length, Result, IfErr, IsErrOf, OnOk}
use Rattle.aria_page.specs.Lsn.{lsn_number}
use Rattle.aria_page.specs.declared.lsn.Lsn.{Lsn}
use Rattle.aria_page.specs.declared.place.Part.{Part}
use Rattle.aria_page.specs.declared.place.Part.TheVariants.{Keys, Rows}
use Rattle.aria_host.specs.Count.{Rose}
use Rattle.aria_host.specs.declared.fault.Fault.{Fault}
use Rattle.aria_host.specs.declared.fault.Fault.TheVariants.{Disk, PageDamaged, LogDamaged}
use Rattle.aria_host.specs.Folder.{Folder}
use Rattle.aria_host.specs.State.{State}
use Rattle.aria_record.specs.Logged.{Logged, lsn_at_place}
use Rattle.aria_log.specs.declared.log.Log.{Log as LogValue}
use Rattle.aria_log.specs.Log.{place}
use Rattle.aria_recovery.specs.Redo.{is_before, redo}
use Rattle.aria_recovery.specs.Tables.{Maker, life_of, file, is_from, tables_of, AreCurrent}
use Rattle.aria_recovery.specs.Images.{page_of}
use Rattle.aria_recovery.specs.Pending.{pending_of}
use Rattle.aria_recovery.specs.Noted.{told_of, last_edit}
use Rattle.aria_recovery.specs.Frames.{Spot}
use Rattle.aria_recovery.specs.declared.life.Told.{Told}
use Rattle.aria_recovery.specs.declared.life.Told.TheVariants.{Nothing, Dropped, Made}
use Rattle.aria_pager.specs.declared.page_store.PageStore.{PageStore}
use Rattle.aria_pager.specs.PageStore.{late_seen}
use Rattle.aria_pager.specs.Pager.{IsPager}
use Rattle.aria_pager.specs.Steps.{damaged_at}
use Rattle.aria_pager.specs.Entered.{needs_slot, OfEnter}

-- redo leaves each page of the file as it is
abbrev pub AreRedone : Folder → List Logged → List ℕ → Part → Type 0
AreRedone folder groups name part = (n : ℕ) → redo name part n (life_of name groups).since (page_of folder name part n) ≡ page_of folder name part n

-- REDO CHANGES NOTHING, and nothing is to be undone.
pub record IsAtRest (folder : Folder) (groups : List Logged) : Type 0 where
  -- no undo record is pending
  pub none : pending_of groups ≡ []
  -- of a table that was dropped last there is no file
  pub gone : (name : List ℕ) → (life_of name groups).last ≡ Some None → (part : Part) → folder (file name part) ≡ None
  -- the files of one that was made last are there, and aren't older than it
  pub made : (name : List ℕ) (m : Maker) → (life_of name groups).last ≡ Some (Some m) → AreCurrent name groups folder
  -- redo leaves each page of a table as it is
  pub pages : (name : List ℕ) → IsTrue (is_some (tables_of folder groups name)) → (part : Part) → AreRedone folder groups name part

-- ---- files

-- a file of a table is as the groups made or left it last
abbrev pub is_settled : Told → Option (List (List ℕ)) → Bool
is_settled Nothing content = true
is_settled Dropped content = not (is_some content)
is_settled (Made at) content = is_from at content

-- both files are
abbrev pub has_settled : Folder → List Logged → List ℕ → Bool
has_settled folder groups name = is_settled (told_of (life_of name groups).last) (folder (file name Keys)) && is_settled (told_of (life_of name groups).last) (folder (file name Rows))

-- ---- pages

-- The page doesn't stand before its last edit.
abbrev pub is_past : Folder → List ℕ → Part → ℕ × Lsn → Bool
is_past folder name part edit = not (is_before (lsn_number edit.1) (page_of folder name part edit.0))

-- redo leaves each page of both files as it is, of a table that the groups tell of
abbrev pub IsRedone : Folder → List Logged → List ℕ → Type 0
IsRedone folder groups name = needs_slot name groups ≡ true → (part : Part) → AreRedone folder groups name part

-- a page that the groups edit, behind the one that made its file last
abbrev pub is_edited : List Logged → Spot → Bool
is_edited groups s = is_some (last_edit s.name s.part s.page groups)

-- ---- faults

-- Why a page can't be looked at: the disk failed; it isn't sound; or it is ahead of the log, which is damaged at its end then.
abbrev pub OfPage : Bool → Lsn → Folder → (Spot → Bool) → Fault → Type 0
OfPage tells end folder among Disk = ⊤
OfPage tells end folder among (PageDamaged f n) = (s : Spot) × (among s ≡ true) × (f ≡ file s.name s.part) × (n ≡ s.page) × (IsTrue tells → page_of folder s.name s.part s.page ≡ None)
OfPage tells end folder among (LogDamaged f n) = (s : Spot) × (among s ≡ true) × (LogDamaged f n ≡ damaged_at end) × (IsTrue tells → late_seen (lsn_number end) (page_of folder s.name s.part s.page) ≡ true)
OfPage tells end folder among _ = ⊥

-- Pages are looked at, or they aren't for one of these causes. Faults of the disk are counted, and come with no other answer.
pub record HasPageCause {T : Type 0} (tells : Bool) (end : Lsn) (among : Spot → Bool) (old new : State) (result : Result T Fault) : Type 0 where
  pub only : IfErr result (OfPage tells end old.folder among)
  pub counted : IsErrOf result Disk → Rose old.disk_faults new.disk_faults
  pub calm : OnOk result (new.disk_faults ≡ old.disk_faults)
  pub later : old.disk_faults ≤ new.disk_faults
  pub tell : new.tell_faults ≡ old.tell_faults

-- Why a folder can't be looked at: as for a table that can't be entered, or for a page that can't be looked at.
abbrev pub OfLook : Bool → LogValue → Folder → Fault → Type 0
OfLook tells log folder fault = OfEnter tells folder fault ⊎ OfPage tells (lsn_at_place (place log)) folder (λ s. true) fault

-- The page that the fault tells of is one that the groups edit.
abbrev pub OfEditedPage : Bool → LogValue → List Logged → Folder → Fault → Type 0
OfEditedPage tells log groups folder (PageDamaged f n) = OfPage tells (lsn_at_place (place log)) folder (is_edited groups) (PageDamaged f n)
OfEditedPage tells log groups folder (LogDamaged f n) = OfPage tells (lsn_at_place (place log)) folder (is_edited groups) (LogDamaged f n)
OfEditedPage tells log groups folder _ = ⊤

-- A folder is looked at, or it isn't for one of these causes. Faults of the disk are counted, and come with no other answer.
pub record HasLookCause {T : Type 0} (tells : Bool) (log : LogValue) (old new : State) (result : Result T Fault) : Type 0 where
  pub only : IfErr result (OfLook tells log old.folder)
  pub counted : IsErrOf result Disk → Rose old.disk_faults new.disk_faults
  pub calm : OnOk result (new.disk_faults ≡ old.disk_faults)
  pub later : old.disk_faults ≤ new.disk_faults
  pub tell : new.tell_faults ≡ old.tell_faults

-- ---- a look

-- The folder needs no recovery, and this is a pager over it as it is, that may append nothing yet.
pub record IsLooked (store : PageStore) (s : State) (base : ℕ) (start : Folder) (groups : List Logged) : Type 0 where
  pub rest : IsAtRest start groups
  pub pager : IsPager store s base start groups (length groups)
  pub started : store.started ≡ false

-- Recovery is needed, or it isn't.
abbrev pub Looks : Option PageStore → State → ℕ → Folder → List Logged → Type 0
Looks found s base start groups = MatchOption found (¬ IsAtRest start groups) (λ store. IsLooked store s base start groups)
