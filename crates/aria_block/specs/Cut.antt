-- What a page becomes without one of its parts.
use Rattle.std.specs.Prelude.{◌≡◌, ◌≢◌, ℕ, zero, suc, ◌+◌, ◌*◌, ◌-◌, ◌/◌, ◌<◌, ◌≤◌, ◌==◌, ◌⊎◌, nat_lt, if◌then◌else◌, List, [], ◌∷◌, ◌++◌, take, drop, slice_index, Option, Some, None, Bool, true, false}
use Rattle.aria_page.specs.declared.edit.Edit.{Edit}
use Rattle.aria_page.specs.declared.edit.Edit.TheVariants.{Set, Shift}
use Rattle.aria_page.specs.declared.group.RedoKind.{RedoKind}
use Rattle.aria_page.specs.declared.group.RedoKind.TheVariants.{PurgeRowHead, PurgeRowTail}
use Rattle.aria_page.specs.declared.page.TheConstants.{BODY_BYTES}
use Rattle.aria_page.specs.declared.page_kind.PageKind.TheVariants as page
use Rattle.aria_page.specs.Number.{number, number_of}
use Rattle.aria_page.specs.PageKind.{kind_byte}
use Rattle.aria_host.specs.declared.file_name.FileName.{FileName}
use Rattle.aria_bitmap.specs.Code.{entry}
use Rattle.aria_cache.specs.PageState.{PageState, with_edits}
use Rattle.aria_block.specs.declared.cut.Cut.{Cut}
use Rattle.aria_block.specs.declared.layout.TheConstants.{PARTS_AT, ENTRY_BYTES}
use Rattle.aria_block.specs.declared.part_kind.PartKind.{PartKind}
use Rattle.aria_block.specs.declared.part_kind.PartKind.TheVariants as part
use Rattle.aria_block.specs.Pieces.{Pieces}
use Rattle.aria_block.specs.DataFile.{HoldsData, on_page, without_piece}
use Rattle.aria_block.specs.PartPage.{Items, part_in, part_byte, head_bytes, IsPartPage}

-- a directory entry without the part of a slot, which has so many bytes from a place on: those of parts behind it move down
abbrev pub moved : ℕ → ℕ → ℕ → ℕ
moved at len e = if nat_lt at (e / 65536) then e - 65536 * len else e

abbrev pub left_entry : List ℕ → ℕ → ℕ → ℕ → ℕ → ℕ
left_entry body nth at len i = if i == nth then 0 else moved at len (entry body i)

-- the first n of them, the highest first
abbrev pub left_directory : List ℕ → ℕ → ℕ → ℕ → ℕ → List ℕ
left_directory body nth at len zero = []
left_directory body nth at len (suc n) = number ENTRY_BYTES (left_entry body nth at len n) ++ left_directory body nth at len n

-- the number of entries up to the last one that is used, without that of the slot
pub record IsLeft (body : List ℕ) (entries nth left : ℕ) : Type 0 where
  pub within : left ≤ entries
  pub above : (i : ℕ) → left ≤ i → i < entries → (i ≡ nth) ⊎ (entry body i ≡ 0)
  pub last : (n : ℕ) → left ≡ suc n → (n ≢ nth) × (entry body n ≢ 0)

-- a part can lie there
abbrev pub Lies : ℕ → ℕ → ℕ → ℕ → Type 0
Lies at len end entries = (PARTS_AT ≤ at) × (at + len ≤ end) × (end + ENTRY_BYTES * entries ≤ BODY_BYTES)

-- what has to be known of a page to take the part in a slot from it
pub record IsCut (kind : PartKind) (nth : ℕ) (body : List ℕ) (cut : Cut) : Type 0 where
  pub first : slice_index body 0 ≡ part_byte kind
  pub slot : nth < slice_index body 1
  pub here : entry body nth ≡ 65536 * cut.at + cut.len
  pub end : cut.end ≡ number_of 2 (drop 2 body)
  pub left : IsLeft body (slice_index body 1) nth cut.left
  pub entries : take (ENTRY_BYTES * cut.left) cut.entries ≡ left_directory body nth cut.at cut.len cut.left
  pub lies : Lies cut.at cut.len cut.end (slice_index body 1)

-- that, where the slot has such a part
abbrev pub Cuts : PartKind → ℕ → List ℕ → Option Cut → Type 0
Cuts kind nth body (Some cut) = IsCut kind nth body cut
Cuts kind nth body None = (c : ℕ) (items : Items) → IsPartPage (part_byte kind) c items body → part_in items nth ≡ None

-- the edits that take it; a page without parts becomes a free page
abbrev pub cut_edits : PartKind → Cut → List Edit
cut_edits kind cut =
    if cut.left == 0 then Set 0 (kind_byte page.FreeData ∷ []) ∷ []
    else Shift (cut.at + cut.len) (cut.end - (cut.at + cut.len)) cut.at
    ∷ (Set (BODY_BYTES - ENTRY_BYTES * cut.left) (take (ENTRY_BYTES * cut.left) cut.entries)
    ∷ (Set 0 (head_bytes (part_byte kind) cut.left (cut.end - cut.len)) ∷ []))

-- the kind of the redo entry for a part that is taken
abbrev pub take_kind : PartKind → RedoKind
take_kind part.Head = PurgeRowHead
take_kind part.Tail = PurgeRowTail

-- The part in a slot was taken, and nothing else was changed.
pub record TakesPart (kind : PartKind) (file : FileName) (page nth : ℕ) (old new : PageState) : Type 0 where
  pub cut : Cut
  pub is : (body : List ℕ) → old.bodies file page ≡ Some body → IsCut kind nth body cut
  pub bodies : new.bodies ≡ with_edits file page (cut_edits kind cut) old.bodies

-- Nothing was changed, since the slot has no such part.
pub record HasNoPart (kind : PartKind) (file : FileName) (page nth : ℕ) (old new : PageState) : Type 0 where
  pub none : (body : List ℕ) → old.bodies file page ≡ Some body → Cuts kind nth body None
  pub bodies : new.bodies ≡ old.bodies

abbrev pub TakesOrNot : PartKind → FileName → ℕ → ℕ → PageState → PageState → Bool → Type 0
TakesOrNot kind file page nth old new true = TakesPart kind file page nth old new
TakesOrNot kind file page nth old new false = HasNoPart kind file page nth old new

-- A part that stood there was found and taken; all other pieces stay.
abbrev pub PartTaken : ℕ → ℕ → ℕ → (ℕ → Option (List ℕ)) → Pieces → Bool → Type 0
PartTaken page nth count bodies pieces true = HoldsData count bodies (on_page page (without_piece nth (pieces page)) pieces)
PartTaken page nth count bodies pieces false = ⊥
