use Rattle.std.proofs.Common.{◌≡◌, ◌++◌}
use Rattle.std.specs.Prelude.{map}
use Rattle.std.specs.List.{filter, take_while}
use Rattle.std.specs.BTreeMap.{values}
use Rattle.std.specs.Map.{values_of}
use Rattle.aria_value.specs.Order.{key_columns, has_values}
use Rattle.aria_memory.proofs.find.find_by_first.Given as goal

-- the rows so far, and those to come as long as they have the values, are all that have them
abbrev pub invariant-loop-row : goal.invariant-loop-row
invariant-loop-row l = map (λ r. r.now) l.found.items ++ take_while (has_values (key_columns l.definition.keys 0) l.sought) (values_of l.row-iterator)
    ≡ filter (has_values (key_columns l.definition.keys 0) l.sought) (values l.rows)
