-- A data file of rows: the pieces on its pages, and the patterns of its bitmap pages.
use Rattle.std.specs.Prelude.{◌≡◌, ◌≢◌, ℕ, suc, ◌-◌, ◌%◌, ◌<◌, ◌==◌, if◌then◌else◌, List, length, take, drop, Option, Some, None, slice_index}
use Rattle.std.specs.Option.{option_map}
use Rattle.aria_page.specs.declared.page.TheConstants.{BODY_BYTES}
use Rattle.aria_page.specs.declared.page_kind.PageKind.TheVariants as page
use Rattle.aria_page.specs.PageKind.{kind_byte}
use Rattle.aria_bitmap.specs.Code.{code}
use Rattle.aria_bitmap.specs.Pattern.{pattern}
use Rattle.aria_block.specs.declared.layout.TheConstants.{MAP_EVERY}
use Rattle.aria_block.specs.declared.part_kind.PartKind.{PartKind}
use Rattle.aria_block.specs.Pieces.{Piece, Pieces, Blob}
use Rattle.aria_block.specs.PartPage.{Items, part_in, part_byte, part_piece, IsPartPage}

-- A page that holds these pieces: none, parts of one kind, or the row bytes of a blob page, which may be fewer than the page has.
pub data HoldsPage (body : List ℕ) (f : ℕ → Option Piece) : Type 0 where
  free : slice_index body 0 ≡ kind_byte page.FreeData → ((slot : ℕ) → f slot ≡ None) → HoldsPage body f
  parts : (kind : PartKind) (c : ℕ) (items : Items) → IsPartPage (part_byte kind) c items body → ((slot : ℕ) → f slot ≡ option_map (part_piece kind) (part_in items slot)) → HoldsPage body f
  blob : (bytes : List ℕ) → slice_index body 0 ≡ kind_byte page.Blob → take (length bytes) (drop 1 body) ≡ bytes → f 0 ≡ Some (Blob bytes) → ((slot : ℕ) → f (suc slot) ≡ None) → HoldsPage body f

-- the bitmap page over a page, and the number of its pattern there
abbrev pub map_of : ℕ → ℕ
map_of n = n - n % MAP_EVERY

abbrev pub nth_of : ℕ → ℕ
nth_of n = n % MAP_EVERY - 1

-- Each page holds its pieces, and has its code as its pattern.
pub record IsDataFile (count : ℕ) (body : ℕ → List ℕ) (pieces : Pieces) : Type 0 where
  pub long : (n : ℕ) → length (body n) ≡ BODY_BYTES
  pub map : (n : ℕ) → n % MAP_EVERY ≡ 0 → n < count → slice_index (body n) 0 ≡ kind_byte page.Bitmap
  pub none : (n slot : ℕ) → n % MAP_EVERY ≡ 0 → pieces n slot ≡ None
  pub page : (n : ℕ) → n % MAP_EVERY ≢ 0 → HoldsPage (body n) (pieces n)
  pub code : (n : ℕ) → n % MAP_EVERY ≢ 0 → pattern (body (map_of n)) (nth_of n) ≡ code (body n)

-- All pages are sound, and are such a file.
pub record HoldsData (count : ℕ) (bodies : ℕ → Option (List ℕ)) (pieces : Pieces) : Type 0 where
  pub body : ℕ → List ℕ
  pub sound : (n : ℕ) → bodies n ≡ Some (body n)
  pub file : IsDataFile count body pieces

-- the pieces of one page are others
abbrev pub on_page : ℕ → (ℕ → Option Piece) → Pieces → Pieces
on_page n f pieces = λ page. if n == page then f else pieces page

-- a piece more on a page, and one less
abbrev pub with_piece : ℕ → Piece → (ℕ → Option Piece) → ℕ → Option Piece
with_piece slot x f = λ s. if slot == s then Some x else f s

abbrev pub without_piece : ℕ → (ℕ → Option Piece) → ℕ → Option Piece
without_piece slot f = λ s. if slot == s then None else f s
