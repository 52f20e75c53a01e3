use Rattle.aria_statement.proofs.Texts.{second_passed}
use Rattle.aria_statement.proofs.text.undoubled.Goals as goal

pub loop-byte-preserved-then-second : goal.loop-byte-preserved-then-second
loop-byte-preserved-then-second c = second_passed c.args.text.now c.loop-byte.bytes _ c.loop-byte.byte-index c.loop-byte.second c.loop-byte-test.true c.if-second.true c.loop-byte.invariant
