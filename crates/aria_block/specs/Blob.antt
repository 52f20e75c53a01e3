-- Blob pages.
use Rattle.std.specs.Prelude.{ℕ, ◌==◌, if◌then◌else◌, List, [], ◌∷◌, Option, Some, None}
use Rattle.aria_page.specs.declared.edit.Edit.{Edit}
use Rattle.aria_page.specs.declared.edit.Edit.TheVariants.{Set}
use Rattle.aria_page.specs.declared.page_kind.PageKind.TheVariants as page
use Rattle.aria_page.specs.PageKind.{kind_byte}
use Rattle.aria_block.specs.Pieces.{Piece, Blob}

-- the edits that make a page one
abbrev pub blob_edits : List ℕ → List Edit
blob_edits bytes = Set 0 (kind_byte page.Blob ∷ []) ∷ (Set 1 bytes ∷ [])

-- what it holds then
abbrev pub blob_pieces : List ℕ → ℕ → Option Piece
blob_pieces bytes = λ slot. if slot == 0 then Some (Blob bytes) else None

-- the edits that make a page free
abbrev pub free_edits : List Edit
free_edits = Set 0 (kind_byte page.FreeData ∷ []) ∷ []

-- what it holds then
abbrev pub no_pieces : ℕ → Option Piece
no_pieces = λ slot. None
