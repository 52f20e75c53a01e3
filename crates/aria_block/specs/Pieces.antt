-- Rows in pieces: which bytes stand at which place of a data file.
use Rattle.std.specs.Prelude.{ℕ, ◌+◌, ◌-◌, ◌*◌, ◌/◌, ◌%◌, Bool, false, ◌&&◌, ◌||◌, ◌==◌, nat_lt, nat_le, if◌then◌else◌, List, ◌++◌, length, take, drop, Option, Some, None}
use Rattle.aria_page.specs.declared.place.Place.{Place}
use Rattle.aria_page.specs.declared.place.Places.{Places}
use Rattle.aria_page.specs.Number.{number}
use Rattle.aria_block.specs.declared.layout.TheConstants.{WHOLE_MAX, HEAD_ROW, TAIL_MAX, BLOB_ROW}

-- what stands at a place: the head of a row, its tail, or the row bytes on a blob page
pub data Piece : Type 0 where
  Head : List ℕ → Piece
  Tail : List ℕ → Piece
  Blob : List ℕ → Piece

-- by page and slot; a blob page has its piece in slot 0
abbrev pub Pieces : Type 0
Pieces = ℕ → ℕ → Option Piece

-- ---- how many bytes go where

-- row bytes in the head
abbrev pub head_size : ℕ → ℕ
head_size n = if nat_le n WHOLE_MAX then n else HEAD_ROW

-- row bytes behind those of the head and of full blob pages
abbrev pub left_size : ℕ → ℕ
left_size n = (n - head_size n) % BLOB_ROW

-- row bytes in the tail
abbrev pub tail_size : ℕ → ℕ
tail_size n = if nat_le (left_size n) TAIL_MAX then left_size n else 0

-- blob pages; the last of them may not be full
abbrev pub blob_count : ℕ → ℕ
blob_count n = (n - head_size n) / BLOB_ROW + (if nat_le (left_size n) TAIL_MAX then 0 else 1)

-- ---- the pieces of a row at its places

-- the place of the tail in a head; zeros where the row has none
abbrev pub tail_bytes : Option Place → List ℕ
tail_bytes None = number 4 0 ++ number 1 0
tail_bytes (Some place) = number 4 place.page ++ number 1 place.slot

-- the head: the length of the row, where its other pieces are, and its first bytes
unfoldable pub head_of : Places → List ℕ → List ℕ
head_of places row = number 4 (length row) ++ (tail_bytes places.tail ++ (number 4 places.blob ++ (number 1 places.blobs ++ take (head_size (length row)) row)))

-- the tail: the last row bytes
unfoldable pub tail_of : List ℕ → List ℕ
tail_of row = drop (length row - tail_size (length row)) row

-- the bytes on the k-th blob page
unfoldable pub blob_of : List ℕ → ℕ → List ℕ
blob_of row k = take BLOB_ROW (drop (head_size (length row) + BLOB_ROW * k) (take (length row - tail_size (length row)) row))

abbrev pub is_at : Place → ℕ → ℕ → Bool
is_at place page slot = (place.page == page) && (place.slot == slot)

abbrev pub is_at_tail : Option Place → ℕ → ℕ → Bool
is_at_tail None page slot = false
is_at_tail (Some place) page slot = is_at place page slot

abbrev pub is_at_blob : Places → ℕ → ℕ → Bool
is_at_blob places page slot = (slot == 0) && (nat_le places.blob page && nat_lt page (places.blob + places.blobs))

-- one of the row's places
abbrev pub is_one_of : Places → ℕ → ℕ → Bool
is_one_of places page slot = is_at places.head page slot || (is_at_tail places.tail page slot || is_at_blob places page slot)

-- the piece at one of the row's places
abbrev pub piece_of : Places → List ℕ → ℕ → ℕ → Piece
piece_of places row page slot =
    if is_at places.head page slot then Head (head_of places row)
    else if is_at_tail places.tail page slot then Tail (tail_of row)
    else Blob (blob_of row (page - places.blob))

-- ---- a row put and taken: all other places stay

abbrev pub with_row : Places → List ℕ → Pieces → Pieces
with_row places row pieces = λ page slot. if is_one_of places page slot then Some (piece_of places row page slot) else pieces page slot

abbrev pub without_row : Places → Pieces → Pieces
without_row places pieces = λ page slot. if is_one_of places page slot then None else pieces page slot
