use Rattle.aria_page.proofs.CrcBlock.{sixteen}
use Rattle.aria_page.proofs.crc.sixteen_on.Goals as goal

pub returns : goal.returns
returns c = sixteen c.args.remainder c.eight_on.result c.eight_on-2.result c.args.first.now c.args.second.now c.told-second c.eight_on.ensures c.eight_on-2.ensures
