-- How many pages a file of so many bytes has.
use Rattle.std.specs.Prelude.{◌≡◌, ℕ, ◌/◌, ◌%◌, ◌<◌, ◌≤◌, ◌^◌, ◌==◌, not, Option, Some, None, ⊤}
use Rattle.aria_host.specs.declared.host.Extent.{Extent}

-- more than 2^31 whole pages
abbrev pub IsTooLong : ℕ → Type 0
IsTooLong bytes = 2 ^ 31 < bytes / 8192

-- so many whole pages, at most 2^31, and whether a rest is left
pub record IsExtent (bytes : ℕ) (extent : Extent) : Type 0 where
  pub pages : extent.pages ≡ bytes / 8192
  pub most : extent.pages ≤ 2 ^ 31
  pub odd : extent.odd ≡ not (bytes % 8192 == 0)

-- the extent of a file of that length, or that it isn't there
abbrev pub IsFound : Option ℕ → Option Extent → Type 0
IsFound None None = ⊤
IsFound (Some bytes) (Some extent) = IsExtent bytes extent
IsFound _ _ = ⊥
