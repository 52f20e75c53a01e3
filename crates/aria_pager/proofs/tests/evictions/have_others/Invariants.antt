use Rattle.aria_host.specs.MemHost.{mem_state}
use Rattle.aria_pager.specs.Usable.{IsUsable}
use Rattle.aria_pager.proofs.tests.evictions.have_others.Given as goal

abbrev pub invariant-loop-nth : goal.invariant-loop-nth
invariant-loop-nth l = IsUsable l.store (mem_state l.host)
