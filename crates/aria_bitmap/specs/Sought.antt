-- Tables of codes that are looked for.
use Rattle.std.specs.Prelude.{◌≡◌, ℕ, zero, suc, ◌<◌, ◌/◌, ◌%◌, Bool, false, ◌||◌, List, slice_index_or}

-- a pair of octal digits is sought where one of them is
abbrev pub OfPairs : List Bool → List Bool → Type 0
OfPairs codes pairs = (x : ℕ) → x < 64 → slice_index_or pairs x false ≡ (slice_index_or codes (x % 8) false || slice_index_or codes (x / 8) false)

-- one of the n lowest octal digits of a number is sought
unfoldable pub any_sought : List Bool → ℕ → ℕ → Bool
any_sought codes zero number = false
any_sought codes (suc n) number = slice_index_or codes (number % 8) false || any_sought codes n (number / 8)
