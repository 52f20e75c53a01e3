-- Rows that are put back at the places where they stood.
use Rattle.std.specs.Prelude.{◌≡◌, ◌≢◌, ℕ, ◌+◌, ◌%◌, ◌<◌, ◌≤◌, true, nat_lt, is_some, List, Option, Some, None}
use Rattle.aria_page.specs.declared.place.Place.{Place}
use Rattle.aria_page.specs.declared.place.Places.{Places}
use Rattle.aria_block.specs.declared.layout.TheConstants.{MAP_EVERY}
use Rattle.aria_block.specs.declared.part_kind.PartKind.{PartKind}
use Rattle.aria_block.specs.Pieces.{Pieces, tail_size, blob_count, is_one_of, with_row}
use Rattle.aria_block.specs.Rows.{IsLaid}
use Rattle.aria_block.specs.Spot.{SpotAt}
use Rattle.aria_block.specs.Runs.{IsUnderOne}
use Rattle.aria_block.specs.DataFile.{HoldsData}
use Rattle.aria_block.specs.Reading.{FitsHead}
use Rattle.aria_block.specs.Lying.{MayLie}

-- A part of so many bytes can go to this place: its page is one of the file, and no bitmap page, and has the room for it in that slot.
pub record TakesPartAt (kind : PartKind) (place : Place) (len count : ℕ) (bodies : ℕ → Option (List ℕ)) : Type 0 where
  pub plain : place.page % MAP_EVERY ≢ 0
  pub below : place.page < count
  pub room : (body : List ℕ) → bodies place.page ≡ Some body → SpotAt kind place.slot len body None → ⊥

-- Pages of the file, all under one bitmap page.
pub record IsRun (first n count : ℕ) : Type 0 where
  pub under : IsUnderOne n first
  pub below : first + n ≤ count

-- The places of a row of this length: a tail and blob pages as it asks for, these on pages of the file under one bitmap page.
pub record MayStand (places : Places) (len count : ℕ) : Type 0 where
  pub tail : is_some places.tail ≡ nat_lt 0 (tail_size len)
  pub blobs : places.blobs ≡ blob_count len
  pub run : 0 < places.blobs → IsRun places.blob places.blobs count

-- The row can be put at these places: nothing stands there, and with it the pieces lie on pages as they may.
pub record CanPutBack (row : List ℕ) (places : Places) (count : ℕ) (pieces : Pieces) : Type 0 where
  pub laid : IsLaid (record { places = places; row = row })
  pub fits : FitsHead (record { places = places; row = row })
  pub blank : (page slot : ℕ) → is_one_of places page slot ≡ true → pieces page slot ≡ None
  pub lie : (page : ℕ) → MayLie (with_row places row pieces page)
  pub maps : (page slot : ℕ) → is_one_of places page slot ≡ true → page % MAP_EVERY ≢ 0
  pub below : (page slot : ℕ) → is_one_of places page slot ≡ true → page < count

-- The row was put at these places, where nothing stood, and nothing else was changed.
pub record RowBack (row : List ℕ) (places : Places) (count : ℕ) (bodies : ℕ → Option (List ℕ)) (pieces : Pieces) : Type 0 where
  pub laid : IsLaid (record { places = places; row = row })
  pub free : (page slot : ℕ) → is_one_of places page slot ≡ true → pieces page slot ≡ None
  pub data_file : HoldsData count bodies (with_row places row pieces)
