use Rattle.std.proofs.Common.{length}
use Rattle.aria_model.specs.Grammar.{value, behind_comma, items}
use Rattle.aria_statement.specs.Lexing.{left}
use Rattle.aria_statement.proofs.Items.{SoFar}
use Rattle.aria_statement.proofs.rows.read_values.Given as goal

-- the values so far and those that are left are all
abbrev pub invariant-loop-values : goal.invariant-loop-values
invariant-loop-values l = SoFar value behind_comma l.values (left l.line l.next) (items value behind_comma (left l.line l.at))

-- the tokens that are left
abbrev pub decreases-loop-values : goal.decreases-loop-values
decreases-loop-values l = length (left l.line l.next)
