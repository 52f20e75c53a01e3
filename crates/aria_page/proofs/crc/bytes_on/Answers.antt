use Rattle.std.proofs.Common.{◌∙◌, sym, arith}
use Rattle.aria_page.proofs.CrcBlock.{none_left, one_more}
use Rattle.aria_page.proofs.crc.bytes_on.Goals as goal

pub loop-byte-preserved : goal.loop-byte-preserved
loop-byte-preserved c =
    one_more c.loop-byte.remainder c.ahead.result c.loop-byte.byte-index c.args.bytes.now c.loop-byte-test.true (λ i. omega (arith, c.type_inv.bytes i)) c.ahead.ensures
    ∙ c.loop-byte.invariant

pub returns : goal.returns
returns c = sym (none_left c.loop-byte.remainder c.loop-byte.byte-index c.args.bytes.now (omega arith)) ∙ c.loop-byte.invariant
