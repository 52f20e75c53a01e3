use Rattle.std.proofs.Common.{◌*◌, ◌^◌, ◌%◌, refl, ap, ◌∙◌, arith}
use Rattle.aria_bitmap.specs.Pattern.{digit}
use Rattle.aria_bitmap.proofs.Digits.{Replaces, replaces, digit-put_here, digit-put_other}
use Rattle.aria_bitmap.proofs.group.with_digit.Goals as goal

-- what becomes of the group
change : (c : goal.After-digit) → Replaces c.args.nth c.args.code c.digit.result (1 * 2 ^ (3 * c.args.nth) % 4294967296) c.args.group
change c = replaces c.args.nth c.args.code c.digit.result (1 * 2 ^ (3 * c.args.nth) % 4294967296) c.args.group c.requires.nth c.requires.code c.requires.group c.digit.ensures.value refl

pub overflow_mul-result : goal.overflow_mul-result
overflow_mul-result c = let f = change c in omega arith

pub overflow_sub-result : goal.overflow_sub-result
overflow_sub-result c = (change c).low

pub overflow_mul-result-2 : goal.overflow_mul-result-2
overflow_mul-result-2 c = let f = change c in omega arith

pub overflow_add-result : goal.overflow_add-result
overflow_add-result c = let f = change c in omega arith

pub returns-clause-here : goal.returns-clause-here
returns-clause-here c = ap (digit c.args.nth) (change c).is ∙ digit-put_here c.args.nth c.args.code c.args.group c.requires.code

pub returns-clause-others : goal.returns-clause-others
returns-clause-others c = λ k ne. ap (digit k) (change c).is ∙ digit-put_other k c.args.nth c.args.code c.args.group c.requires.code ne

pub returns-clause-fits : goal.returns-clause-fits
returns-clause-fits c = let f = change c in omega arith
