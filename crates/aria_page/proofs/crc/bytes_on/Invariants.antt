use Rattle.std.proofs.Common.{◌≡◌, drop}
use Rattle.aria_page.specs.Crc.{crc_from}
use Rattle.aria_page.proofs.crc.bytes_on.Given as goal

-- the bytes that are left make of the remainder what all of them make of the first one
abbrev pub invariant-loop-byte : goal.invariant-loop-byte
invariant-loop-byte l = crc_from l.remainder (drop l.byte-index l.bytes) ≡ crc_from l.fn.remainder l.bytes
