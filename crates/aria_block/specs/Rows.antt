-- Rows at places, and pieces that are theirs.
use Rattle.std.specs.Prelude.{◌≡◌, ℕ, Bool, true, false, ◌||◌, if◌then◌else◌, nat_lt, List, length, Option, Some, None, IsTrue, is_some}
use Rattle.aria_page.specs.declared.place.Place.{Place}
use Rattle.aria_page.specs.declared.place.Places.{Places}
use Rattle.aria_block.specs.Pieces.{Piece, Pieces, is_at, is_one_of, piece_of, is_at_tail, is_at_blob, tail_size, blob_count}

-- a row and where its pieces are
pub record Kept : Type 0 where
  pub places : Places
  pub row : List ℕ

-- a row's places are as many as its length asks for, and no two of them are one
pub record IsLaid (k : Kept) : Type 0 where
  pub tail : is_some k.places.tail ≡ nat_lt 0 (tail_size (length k.row))
  pub blobs : k.places.blobs ≡ blob_count (length k.row)
  pub once : (page slot : ℕ) → is_at k.places.head page slot ≡ true → (is_at_tail k.places.tail page slot || is_at_blob k.places page slot) ≡ false
  pub apart : (page slot : ℕ) → is_at_tail k.places.tail page slot ≡ true → is_at_blob k.places page slot ≡ false

-- the rows by their heads' page and slot
abbrev pub Rows : Type 0
Rows = ℕ → ℕ → Option Kept

-- the rows with one more, and without the one at a place
abbrev pub with_kept : Kept → Rows → Rows
with_kept k rows = λ h s. if is_at k.places.head h s then Some k else rows h s

abbrev pub without_kept : Place → Rows → Rows
without_kept head rows = λ h s. if is_at head h s then None else rows h s

module _ (is_row : List ℕ → Bool) where
  -- Each row has its pieces, each piece is one of a row, and no piece is one of two.
  pub record IsTiled (pieces : Pieces) (table : Rows) : Type 0 where
    pub head : (h s : ℕ) (k : Kept) → table h s ≡ Some k → is_at k.places.head h s ≡ true
    pub laid : (h s : ℕ) (k : Kept) → table h s ≡ Some k → IsLaid k
    pub rows : (h s : ℕ) (k : Kept) → table h s ≡ Some k → IsTrue (is_row k.row)
    pub has : (h s : ℕ) (k : Kept) → table h s ≡ Some k → (page slot : ℕ) → is_one_of k.places page slot ≡ true → pieces page slot ≡ Some (piece_of k.places k.row page slot)
    pub of : (page slot : ℕ) (x : Piece) → pieces page slot ≡ Some x → (h : ℕ) × (s : ℕ) × (k : Kept) × (table h s ≡ Some k) × (is_one_of k.places page slot ≡ true)
    pub once : (page slot h s g t : ℕ) (k l : Kept) → table h s ≡ Some k → table g t ≡ Some l → is_one_of k.places page slot ≡ true → is_one_of l.places page slot ≡ true → k ≡ l
