-- What patterns promise.
use Rattle.std.specs.Prelude.{◌≡◌, ℕ, ◌+◌, ◌<◌, ◌≤◌, Bool, ◌&&◌, ◌||◌, ◌==◌, nat_le, if◌then◌else◌, List, Option, Some, None}
use Rattle.aria_bitmap.specs.declared.code.TheConstants.{ROOM_OF_1, ROOM_OF_2, ROOM_OF_3, ROOM_OF_5, ROOM_OF_6}
use Rattle.aria_bitmap.specs.declared.group.TheConstants.{PATTERNS}
use Rattle.aria_bitmap.specs.Pattern.{pattern}

-- a page with this code takes a head of so many bytes
abbrev pub takes_head : ℕ → ℕ → Bool
takes_head bytes code = (code == 0) || (code == 1 && nat_le bytes ROOM_OF_1) || (code == 2 && nat_le bytes ROOM_OF_2) || (code == 3 && nat_le bytes ROOM_OF_3)

-- a page with this code takes a tail of so many bytes
abbrev pub takes_tail : ℕ → ℕ → Bool
takes_tail bytes code = (code == 0) || (code == 5 && nat_le bytes ROOM_OF_5) || (code == 6 && nat_le bytes ROOM_OF_6)

-- a page with this code takes such a part
unfoldable pub promises : Bool → ℕ → ℕ → Bool
promises tail bytes code = if tail then takes_tail bytes code else takes_head bytes code

-- so many pages from page n on are free, and all under the bitmap page
pub record IsFreeRun (body : List ℕ) (pages n : ℕ) : Type 0 where
  pub within : n + pages ≤ PATTERNS
  pub free : (m : ℕ) → n ≤ m → m < n + pages → pattern body m ≡ 0

-- the lowest number below the limit that has the property; none where no number has it
abbrev pub IsLowest : (ℕ → Type 0) → ℕ → Option ℕ → Type 0
IsLowest P limit (Some n) = (n < limit) × P n × ((m : ℕ) → m < n → P m → ⊥)
IsLowest P limit None = (m : ℕ) → m < limit → P m → ⊥
