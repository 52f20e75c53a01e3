-- Pages that are added to a data file.
use Rattle.std.specs.Prelude.{ℕ, ◌%◌, ◌==◌, if◌then◌else◌, List, [], ◌∷◌}
use Rattle.aria_page.specs.declared.edit.Edit.{Edit}
use Rattle.aria_page.specs.declared.edit.Edit.TheVariants.{Set}
use Rattle.aria_page.specs.declared.page_kind.PageKind.TheVariants as page
use Rattle.aria_page.specs.PageKind.{kind_byte}
use Rattle.aria_block.specs.declared.layout.TheConstants.{MAP_EVERY}

-- the first byte of a new page: that of a bitmap page where the number asks for one, else of a free page
abbrev pub new_kind : ℕ → ℕ
new_kind n = if n % MAP_EVERY == 0 then kind_byte page.Bitmap else kind_byte page.FreeData

-- the edit that adds the page
abbrev pub first_byte : ℕ → List Edit
first_byte n = Set 0 (new_kind n ∷ []) ∷ []
