use Rattle.std.proofs.Common.{◌≡◌, drop, map}
use Rattle.aria_model.specs.Grammar.{keys_of}
use Rattle.aria_statement.specs.Writing.{column_seen, key_seen}
use Rattle.aria_statement.proofs.Collected.{collected, with_front}
use Rattle.aria_statement.proofs.Defining.{key_if}
use Rattle.aria_statement.proofs.definition.keys_of.Given as goal

-- the keys so far and those that are left are all
abbrev pub invariant-loop-key : goal.invariant-loop-key
invariant-loop-key l = with_front l.keys (collected (key_if (map column_seen l.columns)) (drop l.key-index l.written)) ≡ keys_of (map column_seen l.columns) (map key_seen l.written)
