-- The way back up: levels above a page, and a page that they don't name yet.
use Rattle.std.specs.Prelude.{◌≡◌, ℕ, ◌+◌, ◌≤◌, false, List, [], ◌∷◌, ◌++◌, length, ⊤}
use Rattle.aria_keypage.specs.declared.kind.Kind.TheVariants.{Node}
use Rattle.aria_keypage.specs.Item.{Item}
use Rattle.aria_key.specs.declared.path.Passed.{Passed}
use Rattle.aria_key.specs.Tree.{Placed, items_on, names, IsLevel, Filled, is_top, Under, top}

-- the items that name the pages of a level: those of the next level up, or the root
abbrev pub above : ℕ → List (List Placed) → List Item
above root [] = top root
above root (u ∷ us) = items_on u

-- levels from one up to the root
abbrev pub Over : ℕ → ℕ → List (List Placed) → Type 0
Over key root [] = ⊤
Over key root (u ∷ us) = IsLevel Node key (above root us) u × Over key root us

-- they are full enough
abbrev pub FilledOver : List (List Placed) → Type 0
FilledOver [] = ⊤
FilledOver (u ∷ us) = (is_top us ≡ false → Filled u) × FilledOver us

-- the levels above the nearest one are
abbrev pub FilledRest : List (List Placed) → Type 0
FilledRest [] = ⊤
FilledRest (u ∷ us) = FilledOver us

-- child n of a level is child `at` of this page
pub record IsChild (u : List Placed) (n page at : ℕ) : Type 0 where
  pub before : List Placed
  pub here : Placed
  pub behind : List Placed
  pub parts : u ≡ before ++ here ∷ behind
  pub page_is : here.page ≡ page
  pub within : at ≤ length here.content.items
  pub index : n ≡ length (items_on before) + at

-- the way from the root down to child n of a level, through these levels, the lowest of them first
abbrev pub IsPath : List (List Placed) → ℕ → List Passed → Type 0
IsPath [] n path = (path ≡ []) × (n ≡ 0)
IsPath (u ∷ us) n path = (front : List Passed) × (last : Passed) × (path ≡ front ++ last ∷ []) × (c : IsChild u n last.page last.at) × IsPath us (length c.before) front

-- the levels above don't name the page x yet, which stands behind page n
pub record Owes (key root : ℕ) (ups : List (List Placed)) (l : List Placed) (downs : List (List Placed)) (walk : List Item) (n : ℕ) (x : Item) : Type 0 where
  pub front : List Item
  pub y : Item
  pub back : List Item
  pub over : Over key root ups
  pub filled : FilledRest ups
  pub named : names l ≡ front ++ y ∷ x ∷ back
  pub old : above root ups ≡ front ++ y ∷ back
  pub index : length front ≡ n
  pub under : Under false key (names l) (l ∷ downs) walk

-- the levels from the root down to a level, and those below it
abbrev pub onto : List (List Placed) → List (List Placed) → List (List Placed)
onto [] ds = ds
onto (u ∷ us) ds = onto us (u ∷ ds)
