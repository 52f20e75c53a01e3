use Rattle.aria_host.proofs.AfterCrash.{Left}
use Rattle.aria_host.proofs.memory.crash.survivors.Given as goal

abbrev pub invariant-loop-i : goal.invariant-loop-i
invariant-loop-i l = Left l.changes l.i l.fn.fates l.fates l.fn.before.items l.all.items
