-- The rows of a data file.
use Rattle.std.specs.Prelude.{◌≡◌, ℕ, Bool, true, List, Option, None, Some}
use Rattle.aria_page.specs.declared.place.Places.{Places}
use Rattle.aria_block.specs.Pieces.{Pieces, is_one_of, with_row, without_row}
use Rattle.aria_block.specs.Rows.{IsLaid, Rows, with_kept, without_kept, IsTiled}
use Rattle.aria_block.specs.DataFile.{HoldsData}

-- The pages hold these pieces, which are these rows; each passes the test.
pub record HoldsRows (is_row : List ℕ → Bool) (count : ℕ) (bodies : ℕ → Option (List ℕ)) (pieces : Pieces) (rows : Rows) : Type 0 where
  pub data_file : HoldsData count bodies pieces
  pub tiled : IsTiled is_row pieces rows

-- A row was put at these places, which were free, and nothing else was changed.
pub record PutsRow (is_row : List ℕ → Bool) (places : Places) (row : List ℕ) (count : ℕ) (bodies : ℕ → Option (List ℕ)) (pieces : Pieces) (rows : Rows) : Type 0 where
  pub laid : IsLaid (record { places = places; row = row })
  pub free : (page slot : ℕ) → is_one_of places page slot ≡ true → pieces page slot ≡ None
  pub holds : HoldsRows is_row count bodies (with_row places row pieces) (with_kept (record { places = places; row = row }) rows)

-- The row at these places was taken, and nothing else was changed.
pub record TakesRow (is_row : List ℕ → Bool) (places : Places) (row : List ℕ) (count : ℕ) (bodies : ℕ → Option (List ℕ)) (pieces : Pieces) (rows : Rows) : Type 0 where
  pub there : rows places.head.page places.head.slot ≡ Some (record { places = places; row = row })
  pub holds : HoldsRows is_row count bodies (without_row places pieces) (without_kept places.head rows)
