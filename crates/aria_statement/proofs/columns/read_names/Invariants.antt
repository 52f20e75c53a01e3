use Rattle.std.proofs.Common.{length}
use Rattle.aria_model.specs.Grammar.{name, behind_comma, items}
use Rattle.aria_statement.specs.Lexing.{left}
use Rattle.aria_statement.proofs.Items.{SoFar}
use Rattle.aria_statement.proofs.columns.read_names.Given as goal

-- the names so far and those that are left are all
abbrev pub invariant-loop-names : goal.invariant-loop-names
invariant-loop-names l = SoFar name behind_comma l.names (left l.line l.next) (items name behind_comma (left l.line l.at))

-- the tokens that are left
abbrev pub decreases-loop-names : goal.decreases-loop-names
decreases-loop-names l = length (left l.line l.next)
