use Rattle.std.proofs.Common.{refl}
use Rattle.aria_log.proofs.PageReads.{zeros_more}
use Rattle.aria_log.proofs.reader.is_blank.Goals as goal

pub loop-byte-preserved : goal.loop-byte-preserved
loop-byte-preserved c = zeros_more c.loop-byte.bits _ c.loop-byte.byte-index c.args.bytes.now c.loop-byte-test.true refl c.loop-byte.invariant
