-- What is told of a folder, and which answer it gets.
use Rattle.std.specs.Prelude.{◌≡◌, ◌⊎◌, ⊤, ℕ, ◌/◌, Bool, true, Option, Some, None, List, ◌++◌, take, Result, Ok, Err, IsErrOf}
use Rattle.aria_page.specs.declared.lsn.Lsn.{Lsn}
use Rattle.aria_host.specs.declared.fault.Fault.{Fault}
use Rattle.aria_host.specs.declared.fault.Fault.TheVariants.{Memory, Disk, Tell, LogDamaged, ControlDamaged, NotOurs, FileMissing}
use Rattle.aria_host.specs.declared.file_name.FileName.TheVariants.{Log}
use Rattle.aria_host.specs.declared.host.Extent.{Extent}
use Rattle.aria_host.specs.Folder.{Folder}
use Rattle.aria_host.specs.State.{State}
use Rattle.aria_control.specs.declared.found.Found.{Found}
use Rattle.aria_control.specs.Found.{control_file, whole_pages, Finds, Answers as ControlAnswers}
use Rattle.aria_log.specs.declared.find.Damage.{Damage}
use Rattle.aria_log.specs.Pieces.{Piece, log_files, pieces_of, IsFront}
use Rattle.aria_log.specs.Files.{IsSoundLog}
use Rattle.aria_log.specs.Reading.{Entry, entries_of_runs}
use Rattle.aria_log.specs.Finding.{base_of, NoneMissing, IsMissing, IsDamage, EndsFront}
use Rattle.aria_readlog.specs.declared.choice.Choice.{Choice}
use Rattle.aria_readlog.specs.Choice.{all_lines, total_line}
use Rattle.aria_readlog.specs.Start.{IsStart}
use Rattle.aria_readlog.specs.Telling.{IsReadFault}

abbrev pub choice : Option Lsn → Option Lsn → Bool → Choice
choice from to silent = record { from = from; to = to; silent = silent }

-- the control file is sound, and the log is looked at from here on
pub record Begins (folder : Folder) (start : Lsn) : Type 0 where
  pub found : Found
  pub finds : Finds found folder
  pub starts : IsStart found (log_files folder) start

-- This stands in the log: the runs that begin in its valid front.
pub record StandsIn (folder : Folder) (entries : List Entry) : Type 0 where
  pub start : Lsn
  pub begins : Begins folder start
  pub base : ℕ
  pub base_is : base_of start ≡ Some base
  pub front : List Piece
  pub is_front : IsFront (pieces_of (log_files folder)) (base / 8176) true front
  pub entries_are : entries ≡ entries_of_runs (base / 8176) front

-- what is told of a folder: lines, and the last line
pub record IsDisplay (folder : Folder) (choice : Choice) (lines last : List ℕ) : Type 0 where
  pub entries : List Entry
  pub stands : StandsIn folder entries
  pub lines_are : lines ≡ all_lines choice entries
  pub last_is : last ≡ total_line choice entries

-- Behind what was told before, nothing was told, or a front of that.
abbrev pub IsTold : Folder → Choice → List ℕ → List ℕ → Type 0
IsTold folder choice before now =
    (now ≡ before) ⊎ ((lines : List ℕ) × (last : List ℕ) × IsDisplay folder choice lines last × (n : ℕ) × (now ≡ before ++ take n (lines ++ last)))

-- a crash leaves what one before might have left, and by then a front of what is told of the folder was told
abbrev pub AtDisplay : State → Choice → Folder → List ℕ → Type 0
AtDisplay old choice c told = old.may_leave c × IsTold old.folder choice old.out told

-- Nothing is changed: the folder is as it was, and each image is an earlier one.
pub record Keeps (old new : State) : Type 0 where
  pub folder : new.folder ≡ old.folder
  pub images : (c : Folder) → new.may_leave c → old.may_leave c
  pub err : new.err ≡ old.err

-- ---- answers

-- the log is damaged
abbrev pub IsDamaged : Result (Unit {0}) Fault → Type 0
IsDamaged (Err (LogDamaged file page)) = ⊤
IsDamaged _ = ⊥

-- how the telling of a log ends, which is damaged here or isn't
abbrev pub IsEnd : Option Damage → Result (Unit {0}) Fault → Type 0
IsEnd None (Ok done) = ⊤
IsEnd (Some damage) (Ok done) = ⊥
IsEnd None (Err fault) = IsReadFault true fault
IsEnd (Some damage) (Err fault) = IsReadFault true fault ⊎ (fault ≡ LogDamaged damage.file damage.page)

-- no file of the log is missing, and it isn't damaged
pub record IsSound (folder : Folder) : Type 0 where
  pub start : Lsn
  pub begins : Begins folder start
  pub missing : NoneMissing start (log_files folder)
  pub base : ℕ
  pub base_is : base_of start ≡ Some base
  pub end : ℕ
  pub ends : EndsFront (log_files folder) (base / 8176) end
  pub sound : IsSoundLog (log_files folder) base end

-- this file of the log is missing, as seen from the lowest one
pub record Misses (folder : Folder) (file : ℕ) : Type 0 where
  pub start : Lsn
  pub begins : Begins folder start
  pub missing : IsMissing start (log_files folder) file

-- no file of the log is missing, and it is damaged at this page of a file
pub record DamagedAt (folder : Folder) (file page : ℕ) : Type 0 where
  pub start : Lsn
  pub begins : Begins folder start
  pub missing : NoneMissing start (log_files folder)
  pub damage : IsDamage start (log_files folder) file page

-- what is answered of a folder
abbrev pub Answers : Result (Unit {0}) Fault → Folder → Type 0
Answers (Ok done) folder = IsSound folder
Answers (Err (LogDamaged file page)) folder = DamagedAt folder file page
Answers (Err (FileMissing (Log file))) folder = Misses folder file
Answers (Err (FileMissing file)) folder = ControlAnswers (Err (FileMissing file)) folder
Answers (Err (NotOurs file)) folder = ControlAnswers (Err (NotOurs file)) folder
Answers (Err ControlDamaged) folder = ControlAnswers (Err ControlDamaged) folder
Answers (Err _) folder = ⊥

-- the two are the same, or both say that the log is damaged
abbrev pub Agree : Result (Unit {0}) Fault → Result (Unit {0}) Fault → Type 0
Agree a b = (a ≡ b) ⊎ (IsDamaged a × IsDamaged b)

-- the disk, memory or the output failed
abbrev pub Fails : {T : Type 0} → Result T Fault → Type 0
Fails (Err Disk) = ⊤
Fails (Err (Memory error)) = ⊤
Fails (Err Tell) = ⊤
Fails _ = ⊥

-- A control file whose length, as it was looked up, is no multiple of a page's isn't ours.
abbrev pub FitsLength : {T : Type 0} → Option Extent → Result T Fault → Type 0
FitsLength looked result = whole_pages looked ≡ None → IsErrOf result (NotOurs control_file)

-- the faults that are answered
abbrev pub IsDisplayFault : Fault → Type 0
IsDisplayFault Disk = ⊤
IsDisplayFault (Memory error) = ⊤
IsDisplayFault Tell = ⊤
IsDisplayFault (FileMissing file) = ⊤
IsDisplayFault (NotOurs file) = ⊤
IsDisplayFault ControlDamaged = ⊤
IsDisplayFault (LogDamaged file page) = ⊤
IsDisplayFault _ = ⊥
