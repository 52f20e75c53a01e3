use Rattle.std.proofs.Common.{◌≡◌, drop, map}
use Rattle.aria_statement.specs.Writing.{column_seen}
use Rattle.aria_statement.specs.Defining.{columns_if}
use Rattle.aria_statement.proofs.Collected.{collected, with_front}
use Rattle.aria_statement.proofs.Defining.{found_column}
use Rattle.aria_statement.proofs.definition.columns_of.Given as goal

-- the columns so far and those that are left are all
abbrev pub invariant-loop-column : goal.invariant-loop-column
invariant-loop-column l = with_front l.columns (collected found_column (drop l.column-index l.written)) ≡ columns_if (map column_seen l.written)
