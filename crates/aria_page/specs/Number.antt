-- Numbers as they are stored: a fixed number of bytes, the highest first.
use Rattle.std.specs.Prelude.{ℕ, List, length, drop, Option, Some, None, nat_lt, if◌then◌else◌}
use Rattle.std.specs.Int.{bytes_high_first}
use Rattle.byteorder.specs.Endian.{big_number}

-- the n bytes that a number is stored in; of a number that needs more, the lowest n
unfoldable pub number : ℕ → ℕ → List ℕ
number n x = bytes_high_first n x

-- the number that the first n bytes store
unfoldable pub number_of : ℕ → List ℕ → ℕ
number_of n bytes = big_number n bytes

-- a number of n bytes and the bytes after it; nothing where the bytes run out
unfoldable pub number_at : ℕ → List ℕ → Option (ℕ × List ℕ)
number_at n bytes = if nat_lt (length bytes) n then None else Some (number_of n bytes, drop n bytes)
