use Rattle.aria_host.specs.OpenTable.{IsNotBelow}
use Rattle.aria_host.proofs.real.open_table.OpenTable.close.Given as goal

abbrev pub invariant-loop-place : goal.invariant-loop-place
invariant-loop-place l = IsNotBelow l.name l.place l.self.handles
