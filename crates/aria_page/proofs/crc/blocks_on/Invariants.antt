use Rattle.std.proofs.Common.{◌≡◌, length}
use Rattle.aria_page.specs.Crc.{crc_from}
use Rattle.aria_page.proofs.crc.blocks_on.Given as goal

-- the bytes that are left make of the remainder what all of them make of the first one
abbrev pub invariant-loop-first : goal.invariant-loop-first
invariant-loop-first l = crc_from l.remainder l.rest ≡ crc_from l.fn.remainder l.bytes

-- the bytes that are left
abbrev pub decreases-loop-first : goal.decreases-loop-first
decreases-loop-first l = length l.rest
