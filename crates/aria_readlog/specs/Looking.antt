-- The log of a folder, as it was found, or why it wasn't.
use Rattle.std.specs.Prelude.{◌≡◌, ◌⊎◌, ℕ, ◌+◌, ◌*◌, true, Some, List, length, Result, Ok, Err}
use Rattle.aria_page.specs.declared.lsn.Lsn.{Lsn}
use Rattle.aria_host.specs.declared.fault.Fault.{Fault}
use Rattle.aria_host.specs.Folder.{Folder}
use Rattle.aria_control.specs.declared.found.Found.{Found}
use Rattle.aria_control.specs.Found.{Answers as ControlAnswers}
use Rattle.aria_log.specs.declared.log.Log.{Log as LogValue}
use Rattle.aria_log.specs.declared.find.Found.{Found as FoundValue}
use Rattle.aria_log.specs.Pieces.{Piece, LogFiles, log_files, pieces_of, IsFront}
use Rattle.aria_record.specs.Logged.{lsn_at_place}
use Rattle.aria_log.specs.Reading.{IsReadable}
use Rattle.aria_log.specs.Finding.{start_of, base_of, NoneMissing, Finds}
use Rattle.aria_readlog.specs.Start.{IsStart}
use Rattle.aria_readlog.specs.Display.{Answers, Agree, Fails, IsDamaged}

-- the log is read from a page on
pub record IsReadFrom (start : Lsn) (files : LogFiles) (log : LogValue) : Type 0 where
  pub n : ℕ
  pub front : List Piece
  pub is_front : IsFront (pieces_of files) n true front
  pub readable : IsReadable log files (8176 * n) front
  pub first : start_of start ≡ lsn_at_place (8176 * n)
  pub base_is : base_of start ≡ Some (8176 * n)
  pub number_is : log.number ≡ n + length front

-- this is what the control file answers, and nothing else
abbrev pub IsReadAs : Folder → Result Found Fault → Type 0
IsReadAs folder result = (other : Result Found Fault) → ControlAnswers other folder → other ≡ result

-- no file is missing, the log was found, and it is read from this byte on
pub record IsLooked (folder : Folder) (found : FoundValue) (first : Lsn) : Type 0 where
  pub control : Found
  pub is : ControlAnswers (Ok control) folder
  pub only : IsReadAs folder (Ok control)
  pub start : Lsn
  pub starts : IsStart control (log_files folder) start
  pub missing : NoneMissing start (log_files folder)
  pub finds : Finds start (log_files folder) found
  pub first_is : first ≡ start_of start
  pub from : IsReadFrom start (log_files folder) found.log

-- The log wasn't found: the disk or memory failed, or the folder is answered so, and no other answer fits.
pub record IsRefused (folder : Folder) (fault : Fault) : Type 0 where
  pub answer : Fails {T = Unit {0}} (Err fault) ⊎ Answers (Err fault) folder
  pub only : (other : Result (Unit {0}) Fault) → Answers other folder → Fails {T = Unit {0}} (Err fault) ⊎ Agree other (Err fault)
  pub whole : ¬ IsDamaged (Err fault)
