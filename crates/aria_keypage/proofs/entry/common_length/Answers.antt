use Rattle.std.proofs.Common.{arith}
use Rattle.aria_keypage.proofs.Shares.{common-ended}
use Rattle.aria_keypage.proofs.entry.common_length.Goals as goal

pub returns-else-at-b : goal.returns-else-at-b
returns-else-at-b c = omega (arith, common-ended c.args.a.now c.args.b.now c.loop-at.at c.if-at-b.false)
