-- Rows that are taken.
use Rattle.std.specs.Prelude.{◌≡◌, ⊤, ℕ, ◌+◌, ◌^◌, ◌<◌, ◌&&◌, nat_le, nat_lt, Bool, if◌then◌else◌, List, Option, Some, None}
use Rattle.aria_page.specs.declared.place.Place.{Place}
use Rattle.aria_page.specs.declared.place.Places.{Places}
use Rattle.aria_block.specs.declared.part_kind.PartKind.{PartKind}
use Rattle.aria_block.specs.declared.part_kind.PartKind.TheVariants as part
use Rattle.aria_block.specs.Pieces.{Piece, Pieces, Blob, is_at}
use Rattle.aria_block.specs.PartPage.{part_piece}
use Rattle.aria_block.specs.Rows.{Kept, Rows, IsTiled}
use Rattle.aria_block.specs.Reading.{FitsHead}

-- the pieces without the one at a place, and without those of so many pages
abbrev pub without_at : Place → Pieces → Pieces
without_at place pieces = λ page slot. if is_at place page slot then None else pieces page slot

abbrev pub without_pages : ℕ → ℕ → Pieces → Pieces
without_pages first n pieces = λ page slot. if nat_le first page && nat_lt page (first + n) then None else pieces page slot

abbrev pub without_tail : Option Place → Pieces → Pieces
without_tail None pieces = pieces
without_tail (Some place) pieces = without_at place pieces

-- a part of that kind stands there
pub record HasPart (kind : PartKind) (place : Place) (pieces : Pieces) : Type 0 where
  pub bytes : List ℕ
  pub there : pieces place.page place.slot ≡ Some (part_piece kind bytes)

-- a blob stands on each of so many pages
pub record HasPages (first n : ℕ) (pieces : Pieces) : Type 0 where
  pub low : first + n < 2 ^ 32
  pub there : (i : ℕ) → i < n → (bytes : List ℕ) × (pieces (first + i) 0 ≡ Some (Blob bytes))

-- The pieces are rows, and one has these places.
pub record HasRowAt (places : Places) (pieces : Pieces) : Type 0 where
  pub is_row : List ℕ → Bool
  pub rows : Rows
  pub tiled : IsTiled is_row pieces rows
  pub row : List ℕ
  pub there : rows places.head.page places.head.slot ≡ Some (record { places = places; row = row })
  pub fits : FitsHead (record { places = places; row = row })

-- its tail stands there, if it has one
abbrev pub HasTailAt : Option Place → Pieces → Type 0
HasTailAt None pieces = ⊤
HasTailAt (Some place) pieces = HasPart part.Tail place pieces
