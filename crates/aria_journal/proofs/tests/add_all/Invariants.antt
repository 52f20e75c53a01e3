use Rattle.aria_host.specs.MemHost.{mem_state}
use Rattle.aria_journal.specs.Log.{IsRunning}
use Rattle.aria_journal.proofs.tests.add_all.Given as goal

abbrev pub invariant-loop-number : goal.invariant-loop-number
invariant-loop-number l = IsRunning l.log (mem_state l.host)
