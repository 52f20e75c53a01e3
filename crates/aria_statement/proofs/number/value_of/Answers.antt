use Rattle.std.proofs.Common.{refl, ◌∙◌, arith}
use Rattle.aria_statement.proofs.Numbers.{one_more, all_digits}
use Rattle.aria_statement.proofs.number.value_of.Goals as goal

pub loop-digit-preserved : goal.loop-digit-preserved
loop-digit-preserved c = record {
  fits = omega arith;
  total = one_more c.args.digits.now c.loop-digit.digit-index c.loop-digit.value _ c.saturating_add-value.result _ c.loop-digit-test.true refl (omega arith) ∙ c.loop-digit.invariant.total;
}

pub returns : goal.returns
returns c = all_digits c.args.digits.now c.loop-digit.digit-index c.loop-digit.value _ _ c.loop-digit-test.false (omega arith) c.loop-digit.invariant.total
