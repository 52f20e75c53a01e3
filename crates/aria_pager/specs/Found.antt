-- A folder that is opened: what is found of it before anything is made again, and why it isn't found.
use Rattle.std.specs.Prelude.{◌≡◌, ◌⊎◌, ◌<◌, ◌≤◌, ◌*◌, ◌||◌, ⊤, ℕ, Bool, true, false, IsTrue, Option, None, Some, is_some, List, [], ◌∷◌, ◌++◌, All, Result, Err, IfErr, IsErrOf, OnOk}
use Rattle.std.specs.List.{list_any}
use Rattle.aria_page.specs.declared.lsn.Lsn.{Lsn}
use Rattle.aria_page.specs.Lsn.{lsn_number}
use Rattle.aria_page.specs.declared.place.Part.{Part}
use Rattle.aria_host.specs.Calls.{Narrows}
use Rattle.aria_host.specs.Count.{Rose}
use Rattle.aria_host.specs.declared.fault.Fault.{Fault}
use Rattle.aria_host.specs.declared.fault.Fault.TheVariants.{Memory, Disk, LogDamaged, ControlDamaged, NotOurs, FileMissing}
use Rattle.aria_host.specs.declared.file_name.FileName.{FileName}
use Rattle.aria_host.specs.declared.file_name.FileName.TheVariants.{Log as LogFile, Keys, Rows}
use Rattle.aria_host.specs.declared.host.Extent.{Extent}
use Rattle.aria_host.specs.Folder.{Folder, IsFileName, is_log, same_file}
use Rattle.aria_host.specs.Moments.{SameBut, Moments}
use Rattle.aria_host.specs.State.{State, LeavesOnly}
use Rattle.aria_control.specs.declared.control.Control.{Control}
use Rattle.aria_control.specs.declared.found.Found.TheVariants.{Fresh, Kept}
use Rattle.aria_control.specs.ControlPage.{control_page}
use Rattle.aria_control.specs.Found.{control_file, is_control, Answers as ControlAnswers, Fails as ControlFails, Finds as FindsControl, IsBlank, whole_pages}
use Rattle.aria_record.specs.Groups.{IsGroup}
use Rattle.aria_record.specs.Logged.{Logged, lsn_at_place}
use Rattle.aria_log.specs.Files.{HoldsLog, IsSoundLog}
use Rattle.aria_log.specs.Finding.{base_of, IsDamage, IsMissing, NoneMissing}
use Rattle.aria_log.specs.Log.{IsOpened}
use Rattle.aria_log.specs.Pieces.{LogFiles, log_files}
use Rattle.aria_log.specs.Reading.{Entry, next_place}
use Rattle.aria_log.specs.Stepping.{group_of}
use Rattle.aria_recovery.specs.declared.analysis.Analysis.{Analysis}
use Rattle.aria_recovery.specs.Redo.{number_at}
use Rattle.aria_recovery.specs.Analysed.{Has}
use Rattle.aria_recovery.specs.Pending.{Chained, unchained}
use Rattle.aria_recovery.specs.Tables.{file}
use Rattle.aria_pager.specs.declared.find.Found.{Found}
use Rattle.aria_pager.specs.Entered.{AreLow}
use Rattle.aria_pager.specs.Pager.{HasFront}
use Rattle.aria_pager.specs.Settled.{IsFound}
use Rattle.aria_pager.specs.Steps.{damaged_at}

-- ---- the control file

-- Nothing was ever stored: the control file is blank, and no other file of the program's is there.
abbrev pub IsFresh : Folder → Type 0
IsFresh folder = FindsControl Fresh folder

-- what the control file of a new folder names: no checkpoint, and redo from the log's first byte on
abbrev pub no_control : Control
no_control = record { checkpoint = record { file = 0; offset = 0 }; redo = record { file = 0; offset = 0 } }

-- what a folder's control file names; in a fresh folder it names nothing
abbrev pub Names : Folder → Control → Type 0
Names folder control = FindsControl (Kept control) folder ⊎ (IsFresh folder × (control ≡ no_control))

-- each image has the file as it reads
abbrev pub IsDurable : FileName → State → Type 0
IsDurable file s = (c : Folder) → s.may_leave c → c file ≡ s.folder file

-- each image's control file names this
abbrev pub AreKept : Control → State → Type 0
AreKept control s = (c : Folder) → s.may_leave c → FindsControl (Kept control) c

-- the control file of a new folder while it is made: still blank, or its one page names nothing
abbrev pub IsBegun : Option (List (List ℕ)) → Type 0
IsBegun content = IsBlank content ⊎ (content ≡ Some (control_page no_control ∷ []))

abbrev pub HaveBegun : State → Type 0
HaveBegun s = (c : Folder) → s.may_leave c → IsBegun (c control_file)

-- the control file is being made: a crash leaves it so far, and other files are left alone
abbrev pub BeginsControl : State → State → Type 0
BeginsControl old new = Moments is_control old new (λ c. IsBegun (c control_file))

-- A crash leaves what one before might have left, and nothing was told. The control file may be in the making there.
pub record AtBegin (old : State) (c : Folder) (told : List ℕ) : Type 0 where
  pub image : (d : Folder) × old.may_leave d × ((c ≡ d) ⊎ (SameBut is_control d c × IsBegun (c control_file)))
  pub told_is : told ≡ old.out

-- The folder was fresh, and its control file is made, or in the making.
pub record Begins (old new : State) : Type 0 where
  pub fresh : IsFresh old.folder
  pub moments : LeavesOnly old new (AtBegin old)
  pub others : SameBut is_control old.folder new.folder
  pub out : new.out ≡ old.out
  pub err : new.err ≡ old.err

-- Nothing is changed, unless the folder is fresh: then its control file may be made.
abbrev pub MayBegin : State → State → Type 0
MayBegin old new = Narrows old new ⊎ Begins old new

-- ---- the walk over the log

-- A step of the walk went on behind one entry, whose group is added if it is one; or the log ended.
abbrev pub Takes : ℕ → List Entry → Option Lsn → Lsn → List Logged → Analysis → Type 0
Takes end [] None checkpoint groups analysis = Has checkpoint analysis groups
Takes end [] (Some after) checkpoint groups analysis = ⊥
Takes end (entry ∷ rest) None checkpoint groups analysis = ⊥
Takes end (entry ∷ rest) (Some after) checkpoint groups analysis =
    (after ≡ lsn_at_place (next_place end rest)) × Has checkpoint analysis (groups ++ group_of entry.at entry.found) × All (λ g. IsGroup g.group) (group_of entry.at entry.found)

-- ---- what is found

-- it is a file of a table
abbrev pub is_part : FileName → Bool
is_part (Keys name) = true
is_part (Rows name) = true
is_part _ = false

-- each file of the program's but the control file is listed exactly where it is there
abbrev pub AreFiles : List FileName → Folder → Type 0
AreFiles names folder = (f : FileName) → IsFileName f → is_control f ≡ false → list_any (same_file f) names ≡ is_some (folder f)

-- The log was opened from the base that the control names, and read to its end. The tables' files are on the disk.
pub record IsRead (control : Control) (names : List FileName) (s : State) (found : Found) (base : ℕ) (groups : List Logged) : Type 0 where
  pub base_is : base_of control.redo ≡ Some base
  pub log : IsOpened found.log s base groups found.log.last
  pub has : Has control.checkpoint found.analysis groups
  pub chained : Chained control.checkpoint groups
  pub low : AreLow groups
  pub tables : (name : List ℕ) (part : Part) → IsDurable (file name part) s
  pub files_are : found.files ≡ names
  pub from_is : found.from ≡ lsn_at_place base

-- the folder's log has these groups from the base that its control file names, which names this checkpoint too
pub record HasOwn (folder : Folder) (checkpoint : Lsn) (base : ℕ) (groups : List Logged) : Type 0 where
  pub front : HasFront base folder groups
  pub checkpoint_is : front.named.control.checkpoint ≡ checkpoint

-- the same; or the folder is fresh, and has no group
abbrev pub Holds : Folder → Lsn → ℕ → List Logged → Type 0
Holds folder checkpoint base groups = HasOwn folder checkpoint base groups
    ⊎ (IsFresh folder × (checkpoint ≡ no_control.checkpoint) × (base ≡ 8176 * 1024) × (groups ≡ []))

-- THE FOLDER IS FOUND: its log was opened, with the groups that it had as the call began, and all of them are analysed.
pub record IsFoundAs (value : Found) (old new : State) (checkpoint : Lsn) (base : ℕ) (groups : List Logged) : Type 0 where
  pub found : IsFound value.log new base groups
  pub has : Has checkpoint value.analysis groups
  pub chained : Chained checkpoint groups
  pub low : AreLow groups
  pub listed : AreFiles value.files new.folder
  pub from_is : value.from ≡ lsn_at_place base
  pub own : Holds old.folder checkpoint base groups
  pub others : SameBut is_control old.folder new.folder

-- ---- why it isn't found

-- the chain of undo records fails at a group behind the checkpoint, which begins in this page
pub record FailsChain (control : Control) (files : LogFiles) (page : Fault) : Type 0 where
  pub base : ℕ
  pub base_is : base_of control.redo ≡ Some base
  pub groups : List Logged
  pub end : ℕ
  pub holds : HoldsLog files base groups end
  pub sound : IsSoundLog files base end
  pub at : ℕ
  pub at_is : unchained control.checkpoint groups ≡ Some at
  pub page_is : page ≡ damaged_at (lsn_at_place at)

-- the log ends before the checkpoint or there, at the page that is told
pub record EndsBefore (control : Control) (files : LogFiles) (page : Fault) : Type 0 where
  pub base : ℕ
  pub base_is : base_of control.redo ≡ Some base
  pub groups : List Logged
  pub end : ℕ
  pub holds : HoldsLog files base groups end
  pub sound : IsSoundLog files base end
  pub short : ¬ (lsn_number control.checkpoint < number_at (8176 * end))
  pub page_is : page ≡ damaged_at (lsn_at_place (8176 * end))

-- The disk or memory failed; or the lowest missing file of the log is named; or with none missing the log is damaged; or, where it
-- isn't, it ends before the checkpoint, or the chain fails.
abbrev pub RefusesLog : Control → LogFiles → Fault → Type 0
RefusesLog control files Disk = ⊤
RefusesLog control files (Memory error) = ⊤
RefusesLog control files (FileMissing name) = (f : ℕ) × (name ≡ LogFile f) × IsMissing control.redo files f
RefusesLog control files (LogDamaged f page) = NoneMissing control.redo files × (IsDamage control.redo files f page ⊎ (EndsBefore control files (LogDamaged f page) ⊎ FailsChain control files (LogDamaged f page)))
RefusesLog control files _ = ⊥

-- A folder isn't found as its control file is answered so, or else as its log is.
abbrev pub Refuses : Folder → Fault → Type 0
Refuses folder fault = (ControlFails (Err fault) ⊎ ControlAnswers (Err fault) folder) ⊎ ((control : Control) × Names folder control × RefusesLog control (log_files folder) fault)

-- A control file whose length, as it was looked up, is no multiple of a page's isn't ours.
abbrev pub FitsLength : {T : Type 0} → Option Extent → Result T Fault → Type 0
FitsLength looked result = whole_pages looked ≡ None → IsErrOf result (NotOurs control_file)

abbrev pub IsLogDamage : Fault → Type 0
IsLogDamage (LogDamaged f page) = ⊤
IsLogDamage _ = ⊥

-- the faults of a walk over the log; it can't be read only where the host doesn't tell what its files hold
abbrev pub IsWalkFault : Bool → Fault → Type 0
IsWalkFault tells Disk = ⊤
IsWalkFault tells (Memory error) = ⊤
IsWalkFault tells (LogDamaged f page) = tells ≡ false
IsWalkFault tells _ = ⊥

-- the faults of what is read of the log and of the tables' files
abbrev pub IsLogFault : Fault → Type 0
IsLogFault Disk = ⊤
IsLogFault (Memory error) = ⊤
IsLogFault (FileMissing name) = IsTrue (is_log name)
IsLogFault (LogDamaged f page) = ⊤
IsLogFault _ = ⊥

-- and of the control file too
abbrev pub IsFindFault : Fault → Type 0
IsFindFault Disk = ⊤
IsFindFault (Memory error) = ⊤
IsFindFault (FileMissing name) = IsTrue (is_control name || is_log name)
IsFindFault (NotOurs name) = name ≡ control_file
IsFindFault ControlDamaged = ⊤
IsFindFault (LogDamaged f page) = ⊤
IsFindFault _ = ⊥

-- No other fault is answered, and that of the disk only where one was counted; at Ok none was.
pub record HasCause {T : Type 0} (IsFault : Fault → Type 0) (old new : State) (result : Result T Fault) : Type 0 where
  pub only : IfErr result IsFault
  pub counted : IsErrOf result Disk → Rose old.disk_faults new.disk_faults
  pub calm : OnOk result (new.disk_faults ≡ old.disk_faults)
  pub later : old.disk_faults ≤ new.disk_faults
  pub tell : new.tell_faults ≡ old.tell_faults
