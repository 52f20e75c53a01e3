use Rattle.std.proofs.Common.{length, map}
use Rattle.aria_model.specs.Grammar.{column, another_column, items}
use Rattle.aria_statement.specs.Lexing.{left}
use Rattle.aria_statement.specs.Writing.{column_seen}
use Rattle.aria_statement.proofs.Items.{SoFar}
use Rattle.aria_statement.proofs.columns.read_columns.Given as goal

-- the columns so far and those that are left are all
abbrev pub invariant-loop-columns : goal.invariant-loop-columns
invariant-loop-columns l = SoFar column another_column (map column_seen l.columns) (left l.line l.next) (items column another_column (left l.line l.at))

-- the tokens that are left
abbrev pub decreases-loop-columns : goal.decreases-loop-columns
decreases-loop-columns l = length (left l.line l.next)
