-- A search on its way down.
use Rattle.std.specs.Prelude.{◌≡◌, ℕ, Bool, IsTrue, List, length}
use Rattle.aria_cache.specs.PageState.{PageState}
use Rattle.aria_keypage.specs.Item.{Item}
use Rattle.aria_key.specs.declared.path.Path.{Path}
use Rattle.aria_key.specs.Path.{passed}
use Rattle.aria_key.specs.Tree.{Placed, IsTree}
use Rattle.aria_key.specs.Place.{Descent}
use Rattle.aria_key.specs.Reading.{keys_file, Reads}

-- so many levels were passed on this way to this page
pub record IsOnWay (tells : Bool) (slot root : ℕ) (entry : List ℕ) (level page : ℕ) (path : Path) (old now : PageState) : Type 0 where
  pub reads : Reads tells level old now
  pub len : path.len ≡ level
  pub count : length (passed path) ≡ level
  pub on : IsTrue tells → (key : ℕ) (levels : List (List Placed)) (walk : List Item) → IsTree (old.bodies (keys_file old slot)) (old.counts (keys_file old slot)) key root levels walk
      → Descent (old.bodies (keys_file old slot)) (old.counts (keys_file old slot)) key root entry levels walk page (passed path)
