use Rattle.aria_host.specs.MemHost.{mem_state}
use Rattle.aria_log.specs.Log.{IsRunning}
use Rattle.aria_log.proofs.tests.append_all.Given as goal

abbrev pub invariant-loop-nth : goal.invariant-loop-nth
invariant-loop-nth l = IsRunning l.log (mem_state l.host)
