-- A row that is stored piece by piece.
use Rattle.std.specs.Prelude.{◌≡◌, ⊤, ℕ, ◌+◌, ◌-◌, ◌^◌, ◌<◌, ◌&&◌, ◌==◌, nat_le, nat_lt, if◌then◌else◌, true, List, length, Option, Some, None, is_some, Result, Ok, Err}
use Rattle.aria_page.specs.declared.place.Place.{Place}
use Rattle.aria_page.specs.declared.place.Places.{Places}
use Rattle.aria_host.specs.declared.file_name.FileName.{FileName}
use Rattle.aria_cache.specs.PageState.{PageState}
use Rattle.aria_cache.specs.RowFaults.{IsFull}
use Rattle.aria_cache.specs.declared.row_fault.RowFault.{RowFault}
use Rattle.aria_cache.specs.declared.row_fault.RowFault.TheVariants as why
use Rattle.aria_block.specs.declared.layout.TheConstants.{HEAD_FIELDS}
use Rattle.aria_block.specs.declared.part_kind.PartKind.TheVariants as part
use Rattle.aria_block.specs.Pieces.{Piece, Head, Tail, Blob, Pieces, head_of, tail_of, blob_of, head_size, tail_size, blob_count, is_at, is_at_tail, is_one_of, with_row}
use Rattle.aria_block.specs.Rows.{IsLaid}
use Rattle.aria_block.specs.DataFile.{HoldsData}
use Rattle.aria_block.specs.Runs.{AreFree, GrowsForRun, GrowsForPart}

-- one piece more
abbrev pub with_one : Place → Piece → Pieces → Pieces
with_one place x pieces = λ page slot. if is_at place page slot then Some x else pieces page slot

-- so many blob pages of a row more, from a page on
abbrev pub with_blobs : ℕ → ℕ → List ℕ → Pieces → Pieces
with_blobs first n row pieces = λ page slot. if (slot == 0) && (nat_le first page && nat_lt page (first + n)) then Some (Blob (blob_of row (page - first))) else pieces page slot

-- its tail more, if it has one
abbrev pub with_tail : Option Place → List ℕ → Pieces → Pieces
with_tail None row pieces = pieces
with_tail (Some place) row pieces = with_one place (Tail (tail_of row)) pieces

-- The blob pages of a row were put on pages where nothing stood.
pub record BlobsPut (row : List ℕ) (first count : ℕ) (bodies : ℕ → Option (List ℕ)) (pieces : Pieces) : Type 0 where
  pub free : AreFree (blob_count (length row)) first pieces
  pub data_file : HoldsData count bodies (with_blobs first (blob_count (length row)) row pieces)

-- The tail of a row, if it has one, was put where nothing stood.
pub record TailPut (row : List ℕ) (tail : Option Place) (count : ℕ) (bodies : ℕ → Option (List ℕ)) (pieces : Pieces) : Type 0 where
  pub asked : is_some tail ≡ nat_lt 0 (tail_size (length row))
  pub free : (page slot : ℕ) → is_at_tail tail page slot ≡ true → pieces page slot ≡ None
  pub data_file : HoldsData count bodies (with_tail tail row pieces)

-- The head of a row was put where nothing stood.
pub record HeadPut (row : List ℕ) (places : Places) (count : ℕ) (bodies : ℕ → Option (List ℕ)) (pieces : Pieces) : Type 0 where
  pub free : pieces places.head.page places.head.slot ≡ None
  pub data_file : HoldsData count bodies (with_one places.head (Head (head_of places row)) pieces)

-- The row's blob pages were put first, then its tail, then its head. The file grew for each of them only where no bitmap page
-- promised the room for it at that moment.
pub record GrowsByNeed (row : List ℕ) (places : Places) (pieces : Pieces) (file : FileName) (old new : PageState) : Type 0 where
  pub blobs_put : PageState
  pub tail_put : PageState
  pub blobs : HoldsData (blobs_put.counts file) (blobs_put.bodies file) (with_blobs places.blob places.blobs row pieces)
  pub tail : HoldsData (tail_put.counts file) (tail_put.bodies file) (with_tail places.tail row (with_blobs places.blob places.blobs row pieces))
  pub for_blobs : GrowsForRun (blob_count (length row)) file old blobs_put
  pub no_blobs : blob_count (length row) ≡ 0 → blobs_put.counts file ≡ old.counts file
  pub for_tail : GrowsForPart part.Tail (tail_size (length row)) file blobs_put tail_put
  pub no_tail : tail_size (length row) ≡ 0 → tail_put.counts file ≡ blobs_put.counts file
  pub for_head : GrowsForPart part.Head (HEAD_FIELDS + head_size (length row)) file tail_put new

-- The pieces of a row were put at these places, where nothing stood, and nothing else was changed.
pub record RowPut (row : List ℕ) (places : Places) (pieces : Pieces) (file : FileName) (old new : PageState) : Type 0 where
  pub laid : IsLaid (record { places = places; row = row })
  pub free : (page slot : ℕ) → is_one_of places page slot ≡ true → pieces page slot ≡ None
  pub data_file : HoldsData (new.counts file) (new.bodies file) (with_row places row pieces)
  pub needed : GrowsByNeed row places pieces file old new

-- The call answers that the file is full where it has too many pages, and only there. A fault comes first.
abbrev pub TellsFull : {T : Type 0} → ℕ → Result T RowFault → Type 0
TellsFull count (Ok x) = count < 2 ^ 30
TellsFull count (Err (why.Fault fault)) = ⊤
TellsFull count (Err (why.TableFull pages)) = (pages ≡ count) × IsFull count
