-- One step of a change of a level.
use Rattle.std.specs.Prelude.{◌≡◌, ℕ, ◌+◌, ◌-◌, true, List}
use Rattle.std.specs.List.{AllByRecursion}
use Rattle.aria_keypage.specs.declared.kind.Kind.{Kind}
use Rattle.aria_keypage.specs.declared.kind.Kind.TheVariants.{Leaf, Node}
use Rattle.aria_keypage.specs.Item.{Item, is_below}
use Rattle.aria_key.specs.Tree.{Placed, items_on, IsLevel}

-- a level with these items
pub record Has (kind : Kind) (key : ℕ) (xs : List Item) (l : List Placed) (items : List Item) : Type 0 where
  pub level : IsLevel kind key xs l
  pub items_are : items_on l ≡ items

-- an entry lies between items
pub record IsBetween (front : List Item) (entry : List ℕ) (back : List Item) : Type 0 where
  pub below : AllByRecursion (λ y. is_below y.entry entry ≡ true) front
  pub above : AllByRecursion (λ y. is_below entry y.entry ≡ true) back

-- the place in the right half of a page that was divided at k
abbrev pub in_right : Kind → ℕ → ℕ → ℕ
in_right Leaf k at = at - k
in_right Node k at = at - (k + 1)
