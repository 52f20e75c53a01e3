use Rattle.std.proofs.Common.{ℕ, ◌*◌, List}
use Rattle.aria_host.specs.MemHost.{mem_state}
use Rattle.aria_record.specs.Logged.{Logged}
use Rattle.aria_log.specs.Log.{IsLog}
use Rattle.aria_log.proofs.tests.walking.append.Given as goal

abbrev pub invariant-loop-nth : goal.invariant-loop-nth
invariant-loop-nth l = (groups : List Logged) × (forced : ℕ) × IsLog l.log (mem_state l.host) (8176 * 1024) groups forced

abbrev pub invariant-loop-again : goal.invariant-loop-again
invariant-loop-again l = (groups : List Logged) × (forced : ℕ) × IsLog l.log (mem_state l.host) (8176 * 1024) groups forced
