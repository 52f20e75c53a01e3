use Rattle.std.proofs.Common.{sym}
use Rattle.aria_page.proofs.CrcBlock.{eight}
use Rattle.aria_page.proofs.crc.eight_on.Goals as goal

pub returns : goal.returns
returns c =
    rw (c.ahead.ensures, c.ahead-2.ensures, c.ahead-3.ensures, c.ahead-4.ensures, c.ahead-5.ensures, c.ahead-6.ensures, c.ahead-7.ensures, c.ahead-8.ensures, c.to_le_bytes.ensures)
    (sym (eight c.args.after c.args.remainder c.args.bytes.now c.told-bytes c.fits-bytes c.ranges.remainder.fits))
