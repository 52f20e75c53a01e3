use Rattle.std.proofs.Common.{length}
use Rattle.aria_model.specs.Grammar.{setting, behind_comma, items}
use Rattle.aria_statement.specs.Lexing.{left}
use Rattle.aria_statement.proofs.Items.{SoFar}
use Rattle.aria_statement.proofs.rows.read_settings.Given as goal

-- the settings so far and those that are left are all
abbrev pub invariant-loop-settings : goal.invariant-loop-settings
invariant-loop-settings l = SoFar setting behind_comma l.settings (left l.line l.next) (items setting behind_comma (left l.line l.at))

-- the tokens that are left
abbrev pub decreases-loop-settings : goal.decreases-loop-settings
decreases-loop-settings l = length (left l.line l.next)
