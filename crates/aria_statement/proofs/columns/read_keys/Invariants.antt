use Rattle.std.proofs.Common.{length, map}
use Rattle.aria_model.specs.Grammar.{key, another_key, items}
use Rattle.aria_statement.specs.Lexing.{left}
use Rattle.aria_statement.specs.Writing.{key_seen}
use Rattle.aria_statement.proofs.Items.{SoFar}
use Rattle.aria_statement.proofs.columns.read_keys.Given as goal

-- the keys so far and those that are left are all
abbrev pub invariant-loop-keys : goal.invariant-loop-keys
invariant-loop-keys l = SoFar key another_key (map key_seen l.keys) (left l.line l.next) (items key another_key (left l.line l.at))

-- the tokens that are left
abbrev pub decreases-loop-keys : goal.decreases-loop-keys
decreases-loop-keys l = length (left l.line l.next)
