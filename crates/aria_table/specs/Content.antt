-- What a table holds, and what it is without the last operation.
use Rattle.std.specs.Prelude.{◌≡◌, ℕ, ◌+◌, ◌-◌, ◌<◌, ◌≤◌, Bool, true, ◌==◌, if◌then◌else◌, List, [], ◌∷◌, Some, None}
use Rattle.std.specs.BTreeMap.{is_at, insert_entry}
use Rattle.std.specs.Map.{lookup, remove_entry}
use Rattle.std.specs.Ordering.{nat_cmp}
use Rattle.std.specs.Cmp.Lexicographic.{slice_cmp}
use Rattle.aria_page.specs.declared.group.Last.{Last}
use Rattle.aria_page.specs.declared.group.Last.TheVariants.{RowInsert, RowDelete, KeyInsert, KeyDelete, Clr}
use Rattle.aria_page.specs.declared.place.Places.{Places}
use Rattle.aria_block.specs.Rows.{Rows, with_kept, without_kept}
use Rattle.aria_block.specs.Pieces.{Pieces, is_one_of, with_row, without_row}

-- entries with their targets, by rising bytes
abbrev pub Walk : Type 0
Walk = List (List ℕ × ℕ)

-- the pieces of the rows, the rows that they are, the walk of each key, and the number of rows
pub record Content : Type 0 where
  pub pieces : Pieces
  pub kept : Rows
  pub walks : ℕ → Walk
  pub rows : ℕ

-- the order of entries
abbrev pub same_entry : List ℕ → List ℕ → Bool
same_entry entry = is_at (slice_cmp nat_cmp entry)

-- another walk for one key
abbrev pub with_walk : ℕ → Walk → (ℕ → Walk) → ℕ → Walk
with_walk key walk walks = λ k. if key == k then walk else walks k

-- ---- the four changes

abbrev pub put_row : Places → List ℕ → Content → Content
put_row places row c = record { pieces = with_row places row c.pieces; kept = with_kept (record { places = places; row = row }) c.kept; walks = c.walks; rows = c.rows + 1 }

abbrev pub take_row : Places → Content → Content
take_row places c = record { pieces = without_row places c.pieces; kept = without_kept places.head c.kept; walks = c.walks; rows = c.rows - 1 }

abbrev pub put_entry : ℕ → List ℕ → ℕ → Content → Content
put_entry key entry target c = record { pieces = c.pieces; kept = c.kept; walks = with_walk key (insert_entry (slice_cmp nat_cmp) (c.walks key) entry target) c.walks; rows = c.rows }

abbrev pub take_entry : ℕ → List ℕ → Content → Content
take_entry key entry c = record { pieces = c.pieces; kept = c.kept; walks = with_walk key (remove_entry (same_entry entry) (c.walks key)) c.walks; rows = c.rows }

-- ---- Back

-- the content without what the record says was done last
abbrev pub undone : Last → Content → Content
undone (RowInsert places) c = take_row places c
undone (RowDelete places row) c = put_row places row c
undone (KeyInsert key target entry) c = take_entry key entry c
undone (KeyDelete key target entry) c = put_entry key entry target c
undone (Clr this next) c = c

-- what is taken is there, and what is put isn't
abbrev pub Fits : ℕ → Last → Content → Type 0
Fits keys (RowInsert places) c = (row : List ℕ) × (c.kept places.head.page places.head.slot ≡ Some (record { places = places; row = row })) × (1 ≤ c.rows)
Fits keys (RowDelete places row) c = (page slot : ℕ) → is_one_of places page slot ≡ true → c.pieces page slot ≡ None
Fits keys (KeyInsert key target entry) c = (key < keys) × (lookup (same_entry entry) (c.walks key) ≡ Some target)
Fits keys (KeyDelete key target entry) c = (key < keys) × (lookup (same_entry entry) (c.walks key) ≡ None)
Fits keys (Clr this next) c = ⊥

-- ---- taken back through records, newest first

abbrev pub all_undone : List Last → Content → Content
all_undone [] c = c
all_undone (r ∷ rs) c = all_undone rs (undone r c)

-- Each record fits, and what is left is a content that a table may have.
abbrev pub CanUndo : ℕ → (Content → Type 0) → List Last → Content → Type 0
CanUndo keys Sound [] c = Unit {0}
CanUndo keys Sound (r ∷ rs) c = Fits keys r c × Sound (undone r c) × CanUndo keys Sound rs (undone r c)

-- An operation whose record is r made of the old content the new one: the record takes it back.
pub record TakesBack (keys : ℕ) (r : Last) (old new : Content) : Type 0 where
  pub fits : Fits keys r new
  pub back : undone r new ≡ old
