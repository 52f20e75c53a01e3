-- Parts put on pages.
use Rattle.std.specs.Prelude.{◌≡◌, ℕ, ◌+◌, ◌*◌, ◌-◌, ◌≤◌, List, [], ◌∷◌, ◌++◌, length, replicate, IfSome, Option, Some, None}
use Rattle.aria_page.specs.declared.edit.Edit.{Edit}
use Rattle.aria_page.specs.declared.edit.Edit.TheVariants.{Set}
use Rattle.aria_page.specs.declared.group.RedoKind.{RedoKind}
use Rattle.aria_page.specs.declared.group.RedoKind.TheVariants.{InsertRowHead, InsertRowTail}
use Rattle.aria_page.specs.declared.page.TheConstants.{BODY_BYTES}
use Rattle.aria_page.specs.Number.{number}
use Rattle.aria_page.specs.Page.{with_bytes}
use Rattle.aria_host.specs.declared.file_name.FileName.{FileName}
use Rattle.aria_bitmap.specs.Code.{code}
use Rattle.aria_bitmap.specs.Pattern.{SetsPattern}
use Rattle.aria_cache.specs.PageState.{PageState, with_edits}
use Rattle.aria_block.specs.declared.layout.TheConstants.{ENTRY_BYTES}
use Rattle.aria_block.specs.declared.part_kind.PartKind.{PartKind}
use Rattle.aria_block.specs.declared.part_kind.PartKind.TheVariants as part
use Rattle.aria_block.specs.declared.spot.Spot.{Spot}
use Rattle.aria_block.specs.Pieces.{Pieces}
use Rattle.aria_block.specs.PartPage.{head_bytes, part_byte, part_piece}
use Rattle.aria_block.specs.DataFile.{map_of, nth_of, on_page, with_piece, HoldsData}
use Rattle.aria_block.specs.Spot.{SpotFor}

-- the kind of the redo entry for a part that is put
abbrev pub put_kind : PartKind → RedoKind
put_kind part.Head = InsertRowHead
put_kind part.Tail = InsertRowTail

-- a directory entry, and behind it the unused ones of the slots down to the directory's old end
abbrev pub new_entries : Spot → ℕ → List ℕ
new_entries s len = number ENTRY_BYTES (65536 * s.end + len) ++ replicate (ENTRY_BYTES * (s.slot - s.before)) 0

-- the edits that put a part at its spot
abbrev pub part_edits : PartKind → Spot → List ℕ → List Edit
part_edits kind s bytes =
    Set s.end bytes
    ∷ (Set (BODY_BYTES - ENTRY_BYTES * (s.slot + 1)) (new_entries s (length bytes))
    ∷ (Set 0 (head_bytes (part_byte kind) s.entries (s.end + length bytes)) ∷ []))

-- A part was put in this slot, at a spot for it, and nothing else was changed. The slot is the one that was given, or the lowest.
pub record PutsPart (kind : PartKind) (file : FileName) (page : ℕ) (nth : Option ℕ) (slot : ℕ) (bytes : List ℕ) (old new : PageState) : Type 0 where
  pub spot : Spot
  pub fits : (body : List ℕ) → old.bodies file page ≡ Some body → SpotFor kind nth (length bytes) body (Some spot)
  pub in_slot : spot.slot ≡ slot
  pub bodies : new.bodies ≡ with_edits file page (part_edits kind spot bytes) old.bodies

-- Nothing was changed, since the page has no spot for a part.
pub record NoSpot (kind : PartKind) (file : FileName) (page : ℕ) (nth : Option ℕ) (len : ℕ) (old new : PageState) : Type 0 where
  pub full : (body : List ℕ) → old.bodies file page ≡ Some body → SpotFor kind nth len body None
  pub bodies : new.bodies ≡ old.bodies

-- how many bytes of unused entries a part may need
abbrev pub entries_between : Option ℕ → ℕ
entries_between None = 0
entries_between (Some slot) = ENTRY_BYTES * slot

-- The pattern of a page was set to its code, and nothing else was changed.
pub record SetsCode (file : FileName) (page : ℕ) (old new : PageState) : Type 0 where
  pub at : ℕ
  pub bytes : List ℕ
  pub within : at + length bytes ≤ BODY_BYTES
  pub sets : (text map : List ℕ) → old.bodies file page ≡ Some text → old.bodies file (map_of page) ≡ Some map → SetsPattern (nth_of page) (code text) map (with_bytes at bytes map)
  pub bodies : new.bodies ≡ with_edits file (map_of page) (Set at bytes ∷ []) old.bodies

-- A part stands in that slot of a page, where nothing was; all other pieces stay. The slot is the one that was given, if one was.
pub record PartKept (kind : PartKind) (count : ℕ) (bodies : ℕ → Option (List ℕ)) (page : ℕ) (nth : Option ℕ) (slot : ℕ) (bytes : List ℕ) (pieces : Pieces) : Type 0 where
  pub given : IfSome nth (λ n. slot ≡ n)
  pub free : pieces page slot ≡ None
  pub data_file : HoldsData count bodies (on_page page (with_piece slot (part_piece kind bytes) (pieces page)) pieces)
