use Rattle.std.proofs.Common.{sym}
use Rattle.aria_bitmap.proofs.Digits.{digit-shift}
use Rattle.aria_bitmap.proofs.group.digit.Goals as goal

pub returns-clause-value : goal.returns-clause-value
returns-clause-value c = sym (digit-shift c.args.nth c.args.group)
