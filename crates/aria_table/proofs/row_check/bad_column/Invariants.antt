use Rattle.std.proofs.Common.{◌≡◌, ◌≤◌, [], length, drop}
use Rattle.aria_model.specs.Step.{bad_column}
use Rattle.aria_table.proofs.row_check.bad_column.Given as goal

-- the columns so far hold their values, so the rest decides
abbrev pub invariant-loop-nth : goal.invariant-loop-nth
invariant-loop-nth l = (l.nth ≤ length l.row) × (bad_column l.keyed l.nth l.last (drop l.nth l.columns) (drop l.nth l.row) ≡ bad_column l.keyed 0 [] l.columns l.row)
