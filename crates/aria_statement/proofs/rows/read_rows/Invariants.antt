use Rattle.std.proofs.Common.{length}
use Rattle.aria_model.specs.Grammar.{row, another_row, items}
use Rattle.aria_statement.specs.Lexing.{left}
use Rattle.aria_statement.proofs.Items.{SoFar}
use Rattle.aria_statement.proofs.rows.read_rows.Given as goal

-- the rows so far and those that are left are all
abbrev pub invariant-loop-rows : goal.invariant-loop-rows
invariant-loop-rows l = SoFar row another_row l.rows (left l.line l.next) (items row another_row (left l.line l.at))

-- the tokens that are left
abbrev pub decreases-loop-rows : goal.decreases-loop-rows
decreases-loop-rows l = length (left l.line l.next)
