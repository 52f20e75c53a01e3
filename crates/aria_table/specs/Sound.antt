-- What a table of page rows may hold.
use Rattle.std.specs.Prelude.{◌≡◌, ℕ, ◌%◌, ◌≤◌, Bool, List, length, None}
use Rattle.std.specs.List.{AllByRecursion}
use Rattle.std.specs.List.Sorted.{IsStrictlySortedBy}
use Rattle.std.specs.Map.{keys_of}
use Rattle.std.specs.Ordering.{nat_cmp}
use Rattle.std.specs.Cmp.Lexicographic.{slice_cmp}
use Rattle.aria_keypage.specs.declared.item.TheConstants.{ENTRY_MAX}
use Rattle.aria_value.specs.declared.definition.TheConstants.{MAX_ROWS}
use Rattle.aria_block.specs.declared.layout.TheConstants.{MAP_EVERY}
use Rattle.aria_block.specs.Lying.{MayLie}
use Rattle.aria_block.specs.Rows.{IsTiled}
use Rattle.aria_table.specs.Content.{Content, Walk}

-- ---- walks

-- entries that rise, none too long
pub record IsWalk (walk : Walk) : Type 0 where
  pub rise : IsStrictlySortedBy (slice_cmp nat_cmp) (keys_of walk)
  pub short : AllByRecursion (λ entry. length entry ≤ ENTRY_MAX) (keys_of walk)
  pub few : length walk ≤ MAX_ROWS

-- ---- all

-- The pieces are rows, they lie on pages as they may, none on a bitmap page; and the walks and numbers are within their limits.
pub record IsSound (is_row : List ℕ → Bool) (c : Content) : Type 0 where
  pub tiled : IsTiled is_row c.pieces c.kept
  pub lie : (page : ℕ) → MayLie (c.pieces page)
  pub maps : (page slot : ℕ) → page % MAP_EVERY ≡ 0 → c.pieces page slot ≡ None
  pub walks : (key : ℕ) → IsWalk (c.walks key)
  pub few : c.rows ≤ MAX_ROWS
