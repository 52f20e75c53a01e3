use Rattle.std.proofs.Common.{◌≡◌, ◌≤◌, ◌-◌, ◌^◌, min, drop}
use Rattle.aria_model.specs.Token.{digits_value}
use Rattle.aria_statement.proofs.number.value_of.Given as goal

-- up to the greatest number, the digits that are left give their value to that of those so far
abbrev pub invariant-loop-digit : goal.invariant-loop-digit
invariant-loop-digit l = record {
  fits : l.value ≤ 2 ^ 64 - 1;
  total : min (digits_value l.value (drop l.digit-index l.digits)) (2 ^ 64 - 1) ≡ min (digits_value 0 l.digits) (2 ^ 64 - 1);
}
