-- Pieces of a row put and taken.
use Rattle.std.proofs.Common.{◌≡◌, ℕ, Bool, true, false, cond, Option, Some, None, List, refl, sym}
use Rattle.aria_page.specs.declared.place.Places.{Places}
use Rattle.aria_block.specs.Rows.{Kept, Rows, with_kept, without_kept}
use Rattle.aria_block.specs.Pieces.{Piece, Pieces, is_at, is_one_of, piece_of, with_row, without_row}

put_taken : (b : Bool) (x : Piece) (was : Option Piece) → (b ≡ true → was ≡ None) → cond b None (cond b (Some x) was) ≡ was
put_taken true x was none = sym (none refl)
put_taken false x was none = refl

-- a row that is put and taken again
pub taken_put : (places : Places) (row : List ℕ) (pieces : Pieces) → ((page slot : ℕ) → is_one_of places page slot ≡ true → pieces page slot ≡ None)
    → without_row places (with_row places row pieces) ≡ pieces
taken_put places row pieces free = λ i page slot. put_taken (is_one_of places page slot) (piece_of places row page slot) (pieces page slot) (free page slot) i

taken_put_back : (b : Bool) (x : Piece) (was : Option Piece) → (b ≡ true → was ≡ Some x) → cond b (Some x) (cond b None was) ≡ was
taken_put_back true x was is = sym (is refl)
taken_put_back false x was is = refl

-- a row that is taken and put back
pub put_taken_row : (places : Places) (row : List ℕ) (pieces : Pieces) → ((page slot : ℕ) → is_one_of places page slot ≡ true → pieces page slot ≡ Some (piece_of places row page slot))
    → with_row places row (without_row places pieces) ≡ pieces
put_taken_row places row pieces there = λ i page slot. taken_put_back (is_one_of places page slot) (piece_of places row page slot) (pieces page slot) (there page slot) i

-- the same for the rows
kept_step : (b : Bool) (k : Kept) (was : Option Kept) → (b ≡ true → was ≡ None) → cond b None (cond b (Some k) was) ≡ was
kept_step true k was none = sym (none refl)
kept_step false k was none = refl

pub taken_kept : (k : Kept) (rows : Rows) → ((h s : ℕ) → is_at k.places.head h s ≡ true → rows h s ≡ None) → without_kept k.places.head (with_kept k rows) ≡ rows
taken_kept k rows none = λ i h s. kept_step (is_at k.places.head h s) k (rows h s) (none h s) i

kept_back_step : (b : Bool) (k : Kept) (was : Option Kept) → (b ≡ true → was ≡ Some k) → cond b (Some k) (cond b None was) ≡ was
kept_back_step true k was is = sym (is refl)
kept_back_step false k was is = refl

pub put_kept : (k : Kept) (rows : Rows) → ((h s : ℕ) → is_at k.places.head h s ≡ true → rows h s ≡ Some k) → with_kept k (without_kept k.places.head rows) ≡ rows
put_kept k rows there = λ i h s. kept_back_step (is_at k.places.head h s) k (rows h s) (there h s) i
