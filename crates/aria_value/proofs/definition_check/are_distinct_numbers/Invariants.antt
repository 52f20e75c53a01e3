use Rattle.std.proofs.Common.{◌≡◌, drop, ◌==◌}
use Rattle.aria_value.specs.Defined.{distinct}
use Rattle.aria_value.proofs.definition_check.are_distinct_numbers.Given as goal

-- All are distinct if those that are left are.
abbrev pub invariant-loop-i : goal.invariant-loop-i
invariant-loop-i l = distinct ◌==◌ (drop l.i l.numbers) ≡ distinct ◌==◌ l.numbers
