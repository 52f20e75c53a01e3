-- The number of rows in the header of an index file.
use Rattle.std.specs.Prelude.{◌≡◌, ℕ, ◌<◌, ◌^◌, List, ◌∷◌, [], Option, Some}
use Rattle.aria_page.specs.declared.edit.Edit.TheVariants.{Set}
use Rattle.aria_page.specs.Number.{number}
use Rattle.aria_host.specs.declared.file_name.FileName.{FileName}
use Rattle.aria_cache.specs.PageState.{PageState, with_edits}
use Rattle.aria_table.specs.declared.layout.TheConstants.{ROWS_AT}
use Rattle.aria_table.specs.Holds.{rows_in}

-- the number that a change makes of the one that was there
pub record Counts (change : ℕ → ℕ) (file : FileName) (old new : PageState) : Type 0 where
  pub count : ℕ
  pub fits : count < 2 ^ 32
  pub is : (header : List ℕ) → old.bodies file 0 ≡ Some header → change (rows_in header) < 2 ^ 32 → count ≡ change (rows_in header)
  pub bodies : new.bodies ≡ with_edits file 0 (Set ROWS_AT (number 4 count) ∷ []) old.bodies
