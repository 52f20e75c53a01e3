-- What opening a folder gives, and what a crash leaves while it is opened.
use Rattle.std.specs.Prelude.{◌≡◌, ◌⊎◌, ◌*◌, ⊤, ℕ, Bool, true, false, None, List, length}
use Rattle.aria_page.specs.declared.lsn.Lsn.{Lsn}
use Rattle.aria_page.specs.declared.place.Part.{Part}
use Rattle.aria_page.specs.declared.place.Part.TheVariants.{Keys}
use Rattle.aria_host.specs.declared.fault.Fault.{Fault}
use Rattle.aria_host.specs.declared.fault.Fault.TheVariants.{Memory, Disk, NotOurs, PageDamaged, LogDamaged, FileMissing, TooManyTables}
use Rattle.aria_host.specs.declared.file_name.FileName.{FileName}
use Rattle.aria_host.specs.Folder.{Folder}
use Rattle.aria_host.specs.Moments.{SameBut}
use Rattle.aria_host.specs.State.{State, LeavesOnly}
use Rattle.aria_control.specs.Found.{control_file, is_control}
use Rattle.aria_record.specs.Logged.{Logged, lsn_at_place}
use Rattle.aria_log.specs.Pieces.{log_files}
use Rattle.aria_log.specs.Files.{HoldsLog}
use Rattle.aria_recovery.specs.Analysed.{Has}
use Rattle.aria_recovery.specs.Pending.{Chained}
use Rattle.aria_recovery.specs.Redo.{number_at}
use Rattle.aria_recovery.specs.Tables.{file, tables_of}
use Rattle.aria_recovery.specs.Images.{page_of}
use Rattle.aria_recovery.specs.Frames.{Spot}
use Rattle.aria_pager.specs.PageStore.{late_seen}
use Rattle.aria_pager.specs.Steps.{damaged_at}
use Rattle.aria_pager.specs.Turns.{is_aside}
use Rattle.aria_pager.specs.Redone.{IsEdited}
use Rattle.aria_pager.specs.declared.page_store.PageStore.{PageStore}
use Rattle.aria_pager.specs.declared.find.Found.{Found}
use Rattle.aria_pager.specs.Pager.{HasFront, IsPager}
use Rattle.aria_pager.specs.Settled.{IsFound}
use Rattle.aria_pager.specs.Prepared.{AreAllListed}
use Rattle.aria_pager.specs.Entered.{AreLow, LacksOne, AreMany}
use Rattle.aria_pager.specs.Headers.{OfRedoneHeader}
use Rattle.aria_pager.specs.Found.{IsFresh, IsBegun, Holds, Refuses, IsFindFault}

-- A crash leaves what one before might have left; where nothing was ever stored, the control file may be in the making there.
abbrev pub AsBefore : State → Folder → Type 0
AsBefore old c = old.may_leave c ⊎ (IsFresh old.folder × (d : Folder) × old.may_leave d × SameBut is_control d c × IsBegun (c control_file))

-- a folder has the log's groups, and comes to the tables that the folder came to by them as it was opened
pub record IsKept (old c : Folder) : Type 0 where
  pub checkpoint : Lsn
  pub base : ℕ
  pub groups : List Logged
  pub own : Holds old checkpoint base groups
  pub log : HasFront base c groups
  pub tables : (name : List ℕ) → tables_of c groups name ≡ tables_of old groups name

-- ---- behind what was found

-- what was found of the folder, with its log's groups
pub record Finds (value : Found) (s : State) (checkpoint : Lsn) (base : ℕ) (groups : List Logged) : Type 0 where
  pub found : IsFound value.log s base groups
  pub has : Has checkpoint value.analysis groups
  pub low : AreLow groups
  pub listed : AreAllListed value.files s.folder
  pub from_is : value.from ≡ lsn_at_place base

-- a crash leaves these groups, and the tables that the folder came to by them, and nothing is told
pub record AtGroups (old : State) (base : ℕ) (groups : List Logged) (c : Folder) (told : List ℕ) : Type 0 where
  pub log : HasFront base c groups
  pub tables : (name : List ℕ) → tables_of c groups name ≡ tables_of old.folder groups name
  pub told_is : told ≡ old.out

-- The pager has these groups, all of which are forced, and the tables stayed.
pub record IsReopened (old new : State) (base : ℕ) (groups : List Logged) (store : PageStore) : Type 0 where
  pub pager : IsPager store new base old.folder groups (length groups)
  pub tables : (name : List ℕ) → tables_of new.folder groups name ≡ tables_of old.folder groups name
  pub out : new.out ≡ old.out
  pub err : new.err ≡ old.err

-- ---- the whole

-- A crash while a folder is opened leaves what one before might have left, or its groups and its tables. Nothing is told.
pub record AtOpening (old : State) (c : Folder) (told : List ℕ) : Type 0 where
  pub left : AsBefore old c ⊎ IsKept old.folder c
  pub told_is : told ≡ old.out

abbrev pub LeavesOpened : State → State → Type 0
LeavesOpened old new = LeavesOnly old new (AtOpening old)

-- THE FOLDER WAS OPENED: its log's groups are all forced, and the tables are those that it came to by them. The chain of undo
-- records holds behind the checkpoint.
pub record IsOpenedPager (old new : State) (store : PageStore) : Type 0 where
  pub checkpoint : Lsn
  pub base : ℕ
  pub groups : List Logged
  pub own : Holds old.folder checkpoint base groups
  pub chained : Chained checkpoint groups
  pub pager : IsPager store new base old.folder groups (length groups)
  pub tables : (name : List ℕ) → tables_of new.folder groups name ≡ tables_of old.folder groups name
  pub out : new.out ≡ old.out
  pub err : new.err ≡ old.err

-- no file is there that a repair has left
abbrev pub IsCleared : Folder → Type 0
IsCleared folder = (f : FileName) → is_aside f ≡ true → folder f ≡ None

-- ---- why a folder isn't opened

-- A page that the groups edit isn't sound; or it is ahead of the log, whose end is told.
abbrev pub OfRedonePage : ℕ → List Logged → Folder → Folder → Fault → Type 0
OfRedonePage base groups old new (PageDamaged f n) = (s : Spot) × IsEdited groups s × (f ≡ file s.name s.part) × (n ≡ s.page) × (page_of new s.name s.part s.page ≡ None)
OfRedonePage base groups old new (LogDamaged f n) = (s : Spot) × IsEdited groups s × (end : ℕ) × HoldsLog (log_files old) base groups end
    × (LogDamaged f n ≡ damaged_at (lsn_at_place (8176 * end))) × (late_seen (number_at (8176 * end)) (page_of new s.name s.part s.page) ≡ true)
OfRedonePage base groups old new _ = ⊤

-- the faults that opening answers behind what was found; others only where the host doesn't tell what its files hold
abbrev pub IsLateFault : Bool → Fault → Type 0
IsLateFault tells Disk = ⊤
IsLateFault tells (Memory error) = ⊤
IsLateFault tells TooManyTables = ⊤
IsLateFault tells (PageDamaged f n) = ⊤
IsLateFault tells (LogDamaged f n) = ⊤
IsLateFault tells (FileMissing f) = (tells ≡ false) ⊎ ((name : List ℕ) × (part : Part) × (f ≡ file name part))
IsLateFault tells _ = ⊥

-- Why the groups that were found aren't made again: a file isn't there of a table that they tell of; so many tables need slots that
-- there are no more; or a page that they edit is damaged, or ahead of the log.
pub record OfGroups (base : ℕ) (groups : List Logged) (old new : Folder) (fault : Fault) : Type 0 where
  pub late : IsLateFault true fault
  pub missing : LacksOne groups new fault
  pub many : AreMany groups fault
  pub page : OfRedonePage base groups old new fault

-- the same of the groups of the folder's own log
pub record OfOwnGroups (old new : Folder) (fault : Fault) : Type 0 where
  pub checkpoint : Lsn
  pub base : ℕ
  pub groups : List Logged
  pub own : Holds old checkpoint base groups
  pub why : OfGroups base groups old new fault

-- A FOLDER ISN'T READ as its control file or its log is refused, or else for what its groups ask of the tables' files.
abbrev pub OfFolder : Folder → Folder → Fault → Type 0
OfFolder old new fault = Refuses old fault ⊎ OfOwnGroups old new fault

-- the faults that a look at it answers
abbrev pub IsFolderFault : Bool → Fault → Type 0
IsFolderFault tells fault = IsFindFault fault ⊎ IsLateFault tells fault

-- ---- headers

-- Why a pager isn't opened behind what was found: the groups aren't made again, or a table that they tell of doesn't begin with a
-- header then.
abbrev pub OfReopened : ℕ → List Logged → Folder → Folder → Fault → Type 0
OfReopened base groups old new fault = OfGroups base groups old new fault ⊎ OfRedoneHeader base groups old fault

-- the index file of a table isn't ours
abbrev pub IsForeign : Fault → Type 0
IsForeign (NotOurs f) = (name : List ℕ) × (f ≡ file name Keys)
IsForeign _ = ⊥

abbrev pub IsReopenFault : Bool → Fault → Type 0
IsReopenFault tells fault = IsLateFault tells fault ⊎ IsForeign fault

-- the same of the groups of the folder's own log
pub record OfOwnHeader (folder : Folder) (fault : Fault) : Type 0 where
  pub checkpoint : Lsn
  pub base : ℕ
  pub groups : List Logged
  pub own : Holds folder checkpoint base groups
  pub why : OfRedoneHeader base groups folder fault

-- A FOLDER ISN'T OPENED as it isn't read, or as a table of which its groups tell doesn't begin with a header once they are made
-- again.
abbrev pub OfOpen : Folder → Folder → Fault → Type 0
OfOpen old new fault = OfFolder old new fault ⊎ OfOwnHeader old fault

-- the faults that opening answers
abbrev pub IsOpenFault : Bool → Fault → Type 0
IsOpenFault tells fault = IsFolderFault tells fault ⊎ IsForeign fault
