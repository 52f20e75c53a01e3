-- Places in a level.
use Rattle.std.specs.Prelude.{◌≡◌, ℕ, ◌+◌, ◌<◌, Bool, true, false, List, [], ◌∷◌, ◌++◌, length, Option}
use Rattle.std.specs.List.{AllByRecursion}
use Rattle.aria_keypage.specs.Item.{Item, is_below, IsPosition}
use Rattle.aria_key.specs.declared.path.Passed.{Passed}
use Rattle.aria_key.specs.declared.path.TheConstants.{MAX_LEVELS}
use Rattle.aria_key.specs.Tree.{Placed, is_top, Under, HoldAll}
use Rattle.aria_key.specs.Climb.{above, Over, FilledOver, IsPath, onto}

-- which child of a node has the bounds in which an entry lies with this position among the items, from 0 on
abbrev pub child_index : ℕ → Bool → ℕ
child_index place true = place + 1
child_index place false = place

-- page n of a level, in whose bounds an entry lies
pub record IsOn (entry : List ℕ) (l : List Placed) (n page : ℕ) : Type 0 where
  pub before : List Placed
  pub here : Placed
  pub behind : List Placed
  pub parts : l ≡ before ++ here ∷ behind
  pub index : length before ≡ n
  pub page_is : here.page ≡ page
  pub low : is_below entry here.low ≡ false
  pub high : AllByRecursion (λ q. is_below entry q.low ≡ true) behind

-- a search has come to this page, by this way from the root
pub record Descent (bodies : ℕ → Option (List ℕ)) (count key root : ℕ) (entry : List ℕ) (all : List (List Placed)) (walk : List Item) (page : ℕ) (path : List Passed) : Type 0 where
  pub ups : List (List Placed)
  pub level : List Placed
  pub levels : List (List Placed)
  pub whole : onto ups (level ∷ levels) ≡ all
  pub over : Over key root ups
  pub filled : FilledOver ups
  pub under : Under (is_top ups) key (above root ups) (level ∷ levels) walk
  pub hold : HoldAll bodies count (level ∷ levels)
  pub n : ℕ
  pub on : IsOn entry level n page
  pub path_is : IsPath ups n path
  pub few : length path + length levels < MAX_LEVELS

-- the leaf in whose bounds an entry lies, its position there, and the way from the root
pub record IsFound (bodies : ℕ → Option (List ℕ)) (count key root : ℕ) (entry : List ℕ) (all : List (List Placed)) (walk : List Item) (page at : ℕ) (same : Bool) (path : List Passed) : Type 0 where
  pub ups : List (List Placed)
  pub leaves : List Placed
  pub whole : onto ups (leaves ∷ []) ≡ all
  pub over : Over key root ups
  pub filled : FilledOver ups
  pub under : Under (is_top ups) key (above root ups) (leaves ∷ []) walk
  pub hold : HoldAll bodies count (leaves ∷ [])
  pub n : ℕ
  pub on : IsOn entry leaves n page
  pub path_is : IsPath ups n path
  pub place : IsPosition entry on.here.content.items at same
