-- A head or tail page: its parts, in the order of their bytes, and its directory (docs/FORMATS.md).
use Rattle.std.specs.Prelude.{◌≡◌, ◌≢◌, ℕ, zero, suc, ◌+◌, ◌*◌, ◌-◌, ◌<◌, ◌≤◌, ◌==◌, if◌then◌else◌, List, [], ◌∷◌, ◌++◌, length, take, drop, replicate, Option, None}
use Rattle.std.specs.Map.{lookup}
use Rattle.aria_page.specs.declared.page.TheConstants.{BODY_BYTES}
use Rattle.aria_page.specs.declared.page_kind.PageKind.TheVariants as page
use Rattle.aria_page.specs.Number.{number}
use Rattle.aria_page.specs.Page.{with_bytes}
use Rattle.aria_page.specs.PageKind.{kind_byte}
use Rattle.aria_bitmap.specs.Code.{entry}
use Rattle.aria_block.specs.declared.layout.TheConstants.{PARTS_AT, ENTRY_BYTES, MAX_ENTRIES}
use Rattle.aria_block.specs.declared.part_kind.PartKind.{PartKind}
use Rattle.aria_block.specs.declared.part_kind.PartKind.TheVariants as part
use Rattle.aria_block.specs.Pieces.{Piece, Head, Tail}

-- n bytes from a place on
unfoldable pub window : ℕ → ℕ → List ℕ → List ℕ
window at n body = take n (drop at body)

-- ---- kinds of parts

abbrev pub part_byte : PartKind → ℕ
part_byte part.Head = kind_byte page.Head
part_byte part.Tail = kind_byte page.Tail

abbrev pub part_piece : PartKind → List ℕ → Piece
part_piece part.Head = Head
part_piece part.Tail = Tail

-- ---- parts

-- parts with their slots
abbrev pub Items : Type 0
Items = List (ℕ × List ℕ)

abbrev pub text : Items → List ℕ
text [] = []
text (item ∷ items) = item.1 ++ text items

-- the part in a slot
abbrev pub part_in : Items → ℕ → Option (List ℕ)
part_in items slot = lookup (λ s. s == slot) items

-- The directory entry of a slot, where the parts begin at a place: offset and length, 2 bytes each. It is 0 for a slot without a part.
abbrev pub entry_of : ℕ → ℕ → Items → ℕ
entry_of slot from [] = 0
entry_of slot from (item ∷ items) = if item.0 == slot then 65536 * from + length item.1 else entry_of slot (from + length item.1) items

-- no slot has two parts
abbrev pub AreDistinct : Items → Type 0
AreDistinct [] = Unit {0}
AreDistinct (item ∷ items) = (part_in items item.0 ≡ None) × AreDistinct items

-- Parts that lie one after another, with a directory of c entries.
pub record HasParts (c : ℕ) (items : Items) (body : List ℕ) : Type 0 where
  pub long : length body ≡ BODY_BYTES
  pub parts : window PARTS_AT (length (text items)) body ≡ text items
  pub entries : (i : ℕ) → i < c → entry body i ≡ entry_of i PARTS_AT items
  pub above : (i : ℕ) → c ≤ i → part_in items i ≡ None
  pub distinct : AreDistinct items
  pub few : c ≤ MAX_ENTRIES
  pub room : PARTS_AT + length (text items) + ENTRY_BYTES * c ≤ BODY_BYTES

-- the last of c entries is used
abbrev pub LastIsUsed : ℕ → Items → Type 0
LastIsUsed c items = (n : ℕ) × (c ≡ suc n) × (part_in items n ≢ None)

-- the first bytes: the kind, the number of directory entries, and the end of the parts
abbrev pub head_bytes : ℕ → ℕ → ℕ → List ℕ
head_bytes kind c end = number 1 kind ++ (number 1 c ++ number 2 end)

-- A page of parts. One without parts is a free page.
pub record IsPartPage (kind c : ℕ) (items : Items) (body : List ℕ) : Type 0 where
  pub has : HasParts c items body
  pub head : window 0 PARTS_AT body ≡ head_bytes kind c (PARTS_AT + length (text items))
  pub last : LastIsUsed c items

-- ---- what edits make of a page

-- The body with a part more, in any slot that has none. If the slot is past the c entries of the directory, the entries between are unused.
abbrev pub with_part : ℕ → ℕ → ℕ → ℕ → ℕ → List ℕ → List ℕ → List ℕ
with_part kind c d end slot bytes body =
    with_bytes 0 (head_bytes kind d (end + length bytes))
    (with_bytes (BODY_BYTES - ENTRY_BYTES * (slot + 1)) (number ENTRY_BYTES (65536 * end + length bytes) ++ replicate (ENTRY_BYTES * (slot - c)) 0) (with_bytes end bytes body))

-- the bytes of the directory: the entry of the highest slot stands first
abbrev pub directory : ℕ → Items → List ℕ
directory zero items = []
directory (suc n) items = number ENTRY_BYTES (entry_of n PARTS_AT items) ++ directory n items

-- The body without the part that lies behind so many bytes of parts: what is behind it moves down, and the directory is written anew.
abbrev pub without_part : ℕ → ℕ → ℕ → ℕ → ℕ → List ℕ → List ℕ → List ℕ
without_part kind c before len behind entries body =
    with_bytes 0 (head_bytes kind c (PARTS_AT + before + behind))
    (with_bytes (BODY_BYTES - ENTRY_BYTES * c) entries (with_bytes (PARTS_AT + before) (window (PARTS_AT + before + len) behind body) body))
