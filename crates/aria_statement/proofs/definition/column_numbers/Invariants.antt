use Rattle.std.proofs.Common.{◌≡◌, drop, map}
use Rattle.aria_model.specs.Grammar.{column_number, column_numbers}
use Rattle.aria_statement.specs.Writing.{column_seen}
use Rattle.aria_statement.proofs.Collected.{collected, with_front}
use Rattle.aria_statement.proofs.definition.column_numbers.Given as goal

-- the numbers so far and those that are left are all
abbrev pub invariant-loop-name : goal.invariant-loop-name
invariant-loop-name l = with_front l.numbers (collected (column_number (map column_seen l.columns)) (drop l.name-index l.names)) ≡ column_numbers (map column_seen l.columns) l.names
