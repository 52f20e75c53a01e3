-- A search for where the next leaf begins, on its way up.
use Rattle.std.specs.Prelude.{ℕ, ◌+◌, ◌<◌, ◌≤◌, Bool, IsTrue, List, length, Option, IsSome}
use Rattle.aria_host.specs.declared.file_name.FileName.{FileName}
use Rattle.aria_cache.specs.PageState.{PageState}
use Rattle.aria_key.specs.declared.path.Passed.{Passed}
use Rattle.aria_key.specs.declared.path.TheConstants.{MAX_LEVELS}
use Rattle.aria_key.specs.Cursor.{IsWayTo}
use Rattle.aria_key.specs.Reading.{keys_file, Reads}

-- so many levels were climbed, and this part of the way is left
pub record IsOnWayUp (tells : Bool) (slot level : ℕ) (whole path : List Passed) (old now : PageState) : Type 0 where
  pub reads : Reads tells level old now
  pub few : length path + level ≤ MAX_LEVELS
  pub on : IsTrue tells → (next : Option (List ℕ)) → IsWayTo (old.bodies (keys_file old slot)) (old.counts (keys_file old slot)) whole next
      → IsWayTo (old.bodies (keys_file old slot)) (old.counts (keys_file old slot)) path next

-- these nodes are the way to some page
pub record HasWay (s : PageState) (file : FileName) (path : List Passed) : Type 0 where
  pub next : Option (List ℕ)
  pub way : IsWayTo (s.bodies file) (s.counts file) path next

-- a page is there
pub record IsPresent (s : PageState) (file : FileName) (page : ℕ) : Type 0 where
  pub low : page < s.counts file
  pub there : IsSome (s.bodies file page)
