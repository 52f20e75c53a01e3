-- CRC-32, bit by bit.
use Rattle.std.specs.Prelude.{ℕ, zero, suc, ◌*◌, ◌/◌, ◌%◌, bit_xor, List, [], ◌∷◌}

-- the remainder one bit on: its lowest bit falls out, and where that is 1 the polynomial is added
unfoldable pub bit_on : ℕ → ℕ
bit_on r = bit_xor (r / 2) (r % 2 * 0xEDB88320)

-- the remainder n bits on
unfoldable pub bits_on : ℕ → ℕ → ℕ
bits_on zero r = r
bits_on (suc n) r = bits_on n (bit_on r)

-- the remainder after these bytes: each is added at the low end, and goes eight bits on
unfoldable pub crc_from : ℕ → List ℕ → ℕ
crc_from r [] = r
crc_from r (b ∷ bytes) = crc_from (bits_on 8 (bit_xor r b)) bytes

-- begun with all ones, and inverted at the end
unfoldable pub checksum : List ℕ → ℕ
checksum bytes = bit_xor (crc_from 0xFFFFFFFF bytes) 0xFFFFFFFF
