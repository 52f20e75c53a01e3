use Rattle.std.proofs.Common.{◌≡◌, map, take}
use Rattle.aria_value.specs.Order.{value_at}
use Rattle.aria_memory.proofs.row_key.RowKey.from_row.Given as goal

-- the values so far are the row's in the columns so far
abbrev pub invariant-loop-column : goal.invariant-loop-column
invariant-loop-column l = l.values.items ≡ map (value_at l.row) (take l.column-index l.columns)
