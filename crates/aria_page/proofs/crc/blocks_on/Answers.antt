use Rattle.std.proofs.Common.{◌∙◌}
use Rattle.aria_page.proofs.CrcBlock.{blocks_more}
use Rattle.aria_page.proofs.crc.blocks_on.Goals as goal

pub loop-first-preserved : goal.loop-first-preserved
loop-first-preserved c =
    let outer = c.in-Some.ensures.cases in
    let inner = c.in-Some-split_first_chunk.ensures.cases in
    blocks_more c.loop-first.remainder c.sixteen_on-remainder.result c.loop-first.rest.now _ _ _ _ outer.0 outer.1 inner.0 inner.1 c.sixteen_on-remainder.ensures
    ∙ c.loop-first.invariant
