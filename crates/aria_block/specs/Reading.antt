-- Rows that are read.
use Rattle.std.specs.Prelude.{◌≡◌, ◌≢◌, ⊤, ℕ, ◌+◌, ◌^◌, ◌<◌, ◌≤◌, Bool, true, false, IsTrue, nat_lt, if◌then◌else◌, is_some, List, ◌++◌, length, drop, slice_index, Option, Some, None}
use Rattle.aria_page.specs.declared.page.TheConstants.{BODY_BYTES}
use Rattle.aria_page.specs.declared.place.Place.{Place}
use Rattle.aria_page.specs.declared.place.Places.{Places}
use Rattle.aria_page.specs.Number.{number}
use Rattle.aria_host.specs.declared.fault.Fault.{Fault}
use Rattle.aria_host.specs.declared.fault.Fault.TheVariants.{Memory, Disk, PageDamaged, LogDamaged}
use Rattle.aria_host.specs.declared.file_name.FileName.{FileName}
use Rattle.aria_host.specs.Count.{Rose}
use Rattle.aria_record.specs.Groups.{PlacesFit}
use Rattle.aria_cache.specs.PageState.{PageState}
use Rattle.aria_block.specs.declared.layout.TheConstants.{HEAD_FIELDS, ROW_MAX}
use Rattle.aria_block.specs.declared.head_fields.HeadFields.{HeadFields}
use Rattle.aria_block.specs.declared.head_fields.HeadNumbers.{HeadNumbers}
use Rattle.aria_block.specs.declared.part_kind.PartKind.{PartKind}
use Rattle.aria_block.specs.declared.part_kind.PartKind.TheVariants as part
use Rattle.aria_page.specs.declared.page_kind.PageKind.TheVariants as page
use Rattle.aria_page.specs.PageKind.{kind_byte}
use Rattle.aria_block.specs.Pieces.{Head, Tail, Blob, Pieces, head_size, tail_size, blob_count, tail_bytes, head_of, blob_of, tail_of}
use Rattle.aria_block.specs.PartPage.{window, Items, part_in, part_byte, IsPartPage}
use Rattle.aria_block.specs.DataFile.{HoldsData}
use Rattle.aria_block.specs.Rows.{Kept, IsLaid, Rows, IsTiled}

-- ---- parts

-- A page of such parts has the part in this slot at this place.
pub record IsPartAt (kind : PartKind) (nth : ℕ) (body : List ℕ) (at len : ℕ) : Type 0 where
  pub first : slice_index body 0 ≡ part_byte kind
  pub within : at + len ≤ BODY_BYTES
  pub is : (c : ℕ) (items : Items) → IsPartPage (part_byte kind) c items body → part_in items nth ≡ Some (window at len body)

-- that, or the slot has no such part
abbrev pub PartAt : PartKind → ℕ → List ℕ → Option (ℕ × ℕ) → Type 0
PartAt kind nth body (Some at) = IsPartAt kind nth body at.0 at.1
PartAt kind nth body None = (c : ℕ) (items : Items) → IsPartPage (part_byte kind) c items body → part_in items nth ≡ None

-- ---- heads

-- a head and an undo record have room for the row's numbers
abbrev pub FitsHead : Kept → Type 0
FitsHead k = PlacesFit k.places × (length k.row ≤ ROW_MAX)

-- The bytes begin with these numbers.
pub record HasNumbers (bytes : List ℕ) (n : HeadNumbers) : Type 0 where
  pub spelled : bytes ≡ number 4 n.len ++ (number 4 n.page ++ (number 1 n.slot ++ (number 4 n.blob ++ (number 1 n.blobs ++ drop HEAD_FIELDS bytes))))

-- the numbers fit their fields
pub record InRange (n : HeadNumbers) : Type 0 where
  pub len : n.len < 2 ^ 32
  pub page : n.page < 2 ^ 32
  pub slot : n.slot < 2 ^ 8
  pub blob : n.blob < 2 ^ 32
  pub blobs : n.blobs < 2 ^ 8

-- The bytes are a head with these fields and as many row bytes as the row's length asks for.
pub record IsHead (bytes : List ℕ) (h : HeadFields) : Type 0 where
  pub spelled : bytes ≡ number 4 h.len ++ (tail_bytes h.tail ++ (number 4 h.blob ++ (number 1 h.blobs ++ drop HEAD_FIELDS bytes)))
  pub size : length bytes ≡ HEAD_FIELDS + head_size h.len
  pub tail : is_some h.tail ≡ nat_lt 0 (tail_size h.len)
  pub blobs : h.blobs ≡ blob_count h.len
  pub few : h.len ≤ ROW_MAX

-- the numbers fit each other, and so many row bytes behind them
pub record AreFit (n : HeadNumbers) (size : ℕ) : Type 0 where
  pub few : n.len ≤ ROW_MAX
  pub rest : size ≡ head_size n.len
  pub blobs : n.blobs ≡ blob_count n.len
  pub tail : tail_size n.len ≡ 0 → (n.page ≡ 0) × (n.slot ≡ 0)

-- the tail that they say
abbrev pub tail_in : HeadNumbers → Option Place
tail_in n = if nat_lt 0 (tail_size n.len) then Some (record { page = n.page; slot = n.slot }) else None

-- what they say, where they fit
abbrev pub FieldsOf : HeadNumbers → ℕ → Option HeadFields → Type 0
FieldsOf n size (Some h) = AreFit n size × (h ≡ record { len = n.len; tail = tail_in n; blob = n.blob; blobs = n.blobs })
FieldsOf n size None = AreFit n size → ⊥

-- the fields are those of a row
pub record IsHeadOf (k : Kept) (h : HeadFields) : Type 0 where
  pub len : h.len ≡ length k.row
  pub tail : h.tail ≡ k.places.tail
  pub blob : h.blob ≡ k.places.blob
  pub blobs : h.blobs ≡ k.places.blobs

-- ---- pages that are copied from

-- A head was found and its row bytes were added.
pub record TookHead (nth : ℕ) (body old new : List ℕ) (h : HeadFields) : Type 0 where
  pub at : ℕ
  pub len : ℕ
  pub part : IsPartAt part.Head nth body at len
  pub is : IsHead (window at len body) h
  pub says : (k : Kept) → IsLaid k → FitsHead k → window at len body ≡ head_of k.places k.row → IsHeadOf k h
  pub out : new ≡ old ++ drop HEAD_FIELDS (window at len body)

-- that, or no head of a row is there
abbrev pub CopiesHead : ℕ → List ℕ → List ℕ → List ℕ → Option HeadFields → Type 0
CopiesHead nth body old new (Some h) = TookHead nth body old new h
CopiesHead nth body old new None = (c : ℕ) (items : Items) (k : Kept) → IsPartPage (part_byte part.Head) c items body → IsLaid k → FitsHead k → part_in items nth ≡ Some (head_of k.places k.row) → ⊥

-- A tail of so many bytes was found and added.
pub record TookTail (nth len : ℕ) (body old new : List ℕ) : Type 0 where
  pub at : ℕ
  pub part : IsPartAt part.Tail nth body at len
  pub out : new ≡ old ++ window at len body

abbrev pub CopiesTail : ℕ → ℕ → List ℕ → List ℕ → List ℕ → Bool → Type 0
CopiesTail nth len body old new true = TookTail nth len body old new
CopiesTail nth len body old new false = (c : ℕ) (items : Items) (bytes : List ℕ) → IsPartPage (part_byte part.Tail) c items body → part_in items nth ≡ Some bytes → length bytes ≡ len → ⊥

-- the first row bytes of a blob page were added
abbrev pub CopiesBlob : ℕ → List ℕ → List ℕ → List ℕ → Bool → Type 0
CopiesBlob len body old new true = (slice_index body 0 ≡ kind_byte page.Blob) × (new ≡ old ++ window 1 len body)
CopiesBlob len body old new false = slice_index body 0 ≢ kind_byte page.Blob

-- ---- pages that are read

-- The head that stands there was read: its fields, and its row bytes behind others.
pub record ReadsHead (pieces : Pieces) (place : Place) (h : HeadFields) (old new : List ℕ) : Type 0 where
  pub bytes : List ℕ
  pub there : pieces place.page place.slot ≡ Some (Head bytes)
  pub is : IsHead bytes h
  pub says : (k : Kept) → IsLaid k → FitsHead k → bytes ≡ head_of k.places k.row → IsHeadOf k h
  pub out : new ≡ old ++ drop HEAD_FIELDS bytes

-- a row's head stands there
pub record HasHead (place : Place) (pieces : Pieces) : Type 0 where
  pub kept : Kept
  pub laid : IsLaid kept
  pub fits : FitsHead kept
  pub there : pieces place.page place.slot ≡ Some (Head (head_of kept.places kept.row))

-- a tail of so many bytes stands there
pub record HasTail (place : Place) (len : ℕ) (pieces : Pieces) : Type 0 where
  pub bytes : List ℕ
  pub there : pieces place.page place.slot ≡ Some (Tail bytes)
  pub long : length bytes ≡ len

-- a blob stands there
pub record HasBlob (page : ℕ) (pieces : Pieces) : Type 0 where
  pub bytes : List ℕ
  pub there : pieces page 0 ≡ Some (Blob bytes)

-- the blobs of a row of this length stand where the head says
pub record HasBlobs (h : HeadFields) (row : List ℕ) (pieces : Pieces) : Type 0 where
  pub len : h.len ≡ length row
  pub low : h.blob < 2 ^ 31
  pub there : (i : ℕ) → i < h.blobs → pieces (h.blob + i) 0 ≡ Some (Blob (blob_of row i))

abbrev pub HasAllBlobs : HeadFields → Pieces → Type 0
HasAllBlobs h pieces = (row : List ℕ) × HasBlobs h row pieces

-- what a head says fits a row's length
pub record IsSized (h : HeadFields) : Type 0 where
  pub blobs : h.blobs ≡ blob_count h.len
  pub few : h.len ≤ ROW_MAX

-- the other pieces of a row of this length stand where the head says
pub record HasRest (h : HeadFields) (row : List ℕ) (pieces : Pieces) : Type 0 where
  pub blobs : HasBlobs h row pieces
  pub some : is_some h.tail ≡ nat_lt 0 (tail_size (length row))
  pub tail : (place : Place) → h.tail ≡ Some place → pieces place.page place.slot ≡ Some (Tail (tail_of row))

abbrev pub HasAllRest : HeadFields → Pieces → Type 0
HasAllRest h pieces = (row : List ℕ) × HasRest h row pieces

-- The pieces are rows, and one has its head there.
pub record HasRow (place : Place) (pieces : Pieces) : Type 0 where
  pub is_row : List ℕ → Bool
  pub rows : Rows
  pub tiled : IsTiled is_row pieces rows
  pub kept : Kept
  pub there : rows place.page place.slot ≡ Some kept
  pub fits : FitsHead kept

-- what was read of the row that has its head there; nothing can be where none has
abbrev pub ReadsRow : Option Kept → Places → List ℕ → Type 0
ReadsRow None places row = ⊥
ReadsRow (Some k) places row = FitsHead k → record { places = places; row = row } ≡ k

-- Pages of a data file are read: the disk fails, or its pieces aren't what is asked for, or one of its pages is ahead of
-- the log.
abbrev pub OfPieces : Bool → Bool → (Pieces → Type 0) → FileName → PageState → PageState → Fault → Type 0
OfPieces tells logged Asked file old new (Memory e) = ⊤
OfPieces tells logged Asked file old new Disk = Rose old.faults new.faults
OfPieces tells logged Asked file old new (PageDamaged f n) = (f ≡ file) × (IsTrue tells → (pieces : Pieces) → HoldsData (old.counts file) (old.bodies file) pieces → Asked pieces → ⊥)
OfPieces tells logged Asked file old new (LogDamaged f n) = IsTrue logged × (IsTrue tells → (m : ℕ) × IsTrue (old.late file m))
OfPieces tells logged Asked file old new _ = ⊥
