use Rattle.std.proofs.Common.{◌≡◌, drop}
use Rattle.aria_value.specs.Order.{has_values}
use Rattle.aria_memory.proofs.find.has_values.Given as goal

-- the row has the values so far, so the rest decides
abbrev pub invariant-loop-nth : goal.invariant-loop-nth
invariant-loop-nth l = has_values (drop l.nth l.columns) (drop l.nth l.values) l.row ≡ has_values l.columns l.values l.row
