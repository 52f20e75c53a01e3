-- How the pieces of one page may lie.
use Rattle.std.specs.Prelude.{◌≡◌, ℕ, zero, suc, ◌+◌, ◌*◌, ◌≤◌, List, length, Option, Some, None}
use Rattle.aria_page.specs.declared.page.TheConstants.{BODY_BYTES}
use Rattle.aria_block.specs.declared.layout.TheConstants.{PARTS_AT, ENTRY_BYTES, MAX_ENTRIES}
use Rattle.aria_block.specs.Pieces.{Piece, Head, Tail, Blob}

-- how many bytes a piece has
abbrev pub piece_size : Option Piece → ℕ
piece_size None = 0
piece_size (Some (Head bytes)) = length bytes
piece_size (Some (Tail bytes)) = length bytes
piece_size (Some (Blob bytes)) = length bytes

-- the bytes of those in the first slots
abbrev pub size_below : ℕ → (ℕ → Option Piece) → ℕ
size_below zero f = 0
size_below (suc n) f = size_below n f + piece_size (f n)

-- a directory of n entries has them all, and they fit beside it
pub record FitBy (n : ℕ) (f : ℕ → Option Piece) : Type 0 where
  pub few : n ≤ MAX_ENTRIES
  pub above : (slot : ℕ) → n ≤ slot → f slot ≡ None
  pub room : PARTS_AT + size_below n f + ENTRY_BYTES * n ≤ BODY_BYTES

abbrev pub IsHead : Piece → Type 0
IsHead (Head bytes) = Unit {0}
IsHead _ = ⊥

abbrev pub IsTail : Piece → Type 0
IsTail (Tail bytes) = Unit {0}
IsTail _ = ⊥

-- nothing; or heads, or tails, that fit; or a blob
pub data MayLie (f : ℕ → Option Piece) : Type 0 where
  empty : ((slot : ℕ) → f slot ≡ None) → MayLie f
  heads : ((slot : ℕ) (x : Piece) → f slot ≡ Some x → IsHead x) → (n : ℕ) → FitBy n f → MayLie f
  tails : ((slot : ℕ) (x : Piece) → f slot ≡ Some x → IsTail x) → (n : ℕ) → FitBy n f → MayLie f
  blob : (bytes : List ℕ) → f 0 ≡ Some (Blob bytes) → ((slot : ℕ) → f (suc slot) ≡ None) → MayLie f
