use Rattle.std.proofs.Common.{◌≡◌, ◌++◌}
use Rattle.std.specs.Prelude.{map}
use Rattle.std.specs.List.{filter}
use Rattle.std.specs.BTreeMap.{values}
use Rattle.aria_value.specs.Order.{has_values}
use Rattle.aria_memory.proofs.find.find_among.Given as goal

-- the rows so far and those to come that have the values are all that have them
abbrev pub invariant-loop-row : goal.invariant-loop-row
invariant-loop-row l = map (λ r. r.now) l.found.items ++ filter (has_values l.columns l.sought) l.row-iterator
    ≡ filter (has_values l.columns l.sought) (values l.rows)
