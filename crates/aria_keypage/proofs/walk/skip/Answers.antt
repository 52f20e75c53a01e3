use Rattle.std.proofs.Common.{arith}
use Rattle.aria_keypage.proofs.Left.{left-more, left-read}
use Rattle.aria_keypage.proofs.walk.skip.Goals as goal

pub returns-in_default : goal.returns-in_default
returns-in_default c xs is within =
    absurd (left-read c.args.width xs c.loop-at.at c.loop-at.rest.now is.all (c.loop-at.invariant xs is within) c.in_default.ensures (omega arith))

pub loop-at-preserved : goal.loop-at-preserved
loop-at-preserved c xs is within =
    (left-more c.args.width xs c.loop-at.at c.loop-at.rest.now _ is.all (c.loop-at.invariant xs is within) c.in-Some.ensures (omega arith)).1
