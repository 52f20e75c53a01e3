-- The status of each reason to stop, and its cause where lines are executed.
use Rattle.std.specs.Prelude.{ℕ, if◌then◌else◌, Option, None, Some}
use Rattle.aria_host.specs.State.{State}
use Rattle.aria_host.specs.declared.fault.Fault.{Fault}
use Rattle.aria_engine.specs.Store.{HasCause}
use Rattle.aria_tools.specs.declared.status.Status.TheVariants as statuses
use Rattle.aria_tools.specs.declared.stop.Stop.{Stop}
use Rattle.aria_tools.specs.declared.stop.Stop.TheVariants as why
use Rattle.aria_tools.specs.Statuses.{code_of, status_at, is_named}

abbrev pub status_of : Stop → ℕ
status_of (why.Fault fault) = code_of (status_at fault)
status_of why.TooLong = code_of statuses.TooLong

-- the reasons to stop as a line is executed: memory, the disk, or a stream that failed
abbrev pub IsLineStop : Stop → State → State → Type 0
IsLineStop (why.Fault fault) before now = HasCause fault before now
IsLineStop why.TooLong before now = ⊥

-- the fault at which a run stops, where the line of its status names it
abbrev pub named_fault : Stop → Option Fault
named_fault (why.Fault fault) = if is_named fault then Some fault else None
named_fault why.TooLong = None
