use Rattle.std.proofs.Common.{◌≡◌, drop, map}
use Rattle.aria_model.specs.Grammar.{column_number}
use Rattle.aria_statement.specs.Writing.{column_seen}
use Rattle.aria_statement.proofs.Counting.{further}
use Rattle.aria_statement.proofs.definition.column_number.Given as goal

-- The wanted column is one of those that are left, if it is one.
abbrev pub invariant-loop-i : goal.invariant-loop-i
invariant-loop-i l = further l.i (column_number (map column_seen (drop l.i l.columns)) l.wanted) ≡ column_number (map column_seen l.columns) l.wanted
