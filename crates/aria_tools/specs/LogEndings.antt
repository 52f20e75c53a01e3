-- How the telling of a log ends: its status, its line on standard error, and what it leaves.
use Rattle.std.specs.Prelude.{◌≡◌, ◌≢◌, ◌⊎◌, ℕ, Bool, false, List, None, Result, Ok, Err}
use Rattle.aria_host.specs.declared.fault.Fault.{Fault}
use Rattle.aria_host.specs.State.{Folder, State, LeavesOnly}
use Rattle.aria_readlog.specs.declared.choice.Choice.{Choice}
use Rattle.aria_readlog.specs.Display.{choice, Answers, AtDisplay}
use Rattle.aria_tools.specs.declared.stop.Stop.{Stop}
use Rattle.aria_tools.specs.declared.stop.Stop.TheVariants as why
use Rattle.aria_tools.specs.Statuses.{status_text, fault_text}
use Rattle.aria_tools.specs.Endings.{TellsText}

-- all of the log, or its last line alone
abbrev pub whole_log : Bool → Choice
whole_log silent = choice None None silent

-- what was answered, as a run ends: no statement was refused
abbrev pub as_run : Result (Unit {0}) Fault → Result Bool Stop
as_run (Ok done) = Ok false
as_run (Err fault) = Err (why.Fault fault)

-- the statuses: done, want of memory, a fault of the disk, a damage of the folder, or a fault of a stream
abbrev pub IsLogStatus : ℕ → Type 0
IsLogStatus status = (status ≡ 0) ⊎ ((status ≡ 3) ⊎ ((status ≡ 4) ⊎ ((status ≡ 5) ⊎ (status ≡ 7))))

-- the line on standard error for a status; at 5 it names the fault that stands in the folder
abbrev pub IsLogText : ℕ → Folder → List ℕ → Type 0
IsLogText status folder text =
    ((status ≢ 5) × (text ≡ status_text status)) ⊎ ((status ≡ 5) × (fault : Fault) × Answers (Err fault) folder × (text ≡ fault_text fault))

-- On standard error the status's line was told, or a front of it where telling failed.
abbrev pub TellsLogStatus : ℕ → State → State → Type 0
TellsLogStatus status before now = (text : List ℕ) × IsLogText status before.folder text × TellsText text before now

-- Nothing is changed: the folder is as it was, and a crash, now or at any moment, leaves what one might have left
-- before. By then a front of what is told of the log was told.
pub record OnlyTells (silent : Bool) (before now : State) : Type 0 where
  pub folder : now.folder ≡ before.folder
  pub images : (c : Folder) → now.may_leave c → before.may_leave c
  pub moments : LeavesOnly before now (AtDisplay before (whole_log silent))
