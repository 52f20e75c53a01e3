-- Cursors: what is left of a tree's entries, and where the leaf behind another begins, told by the way to that one.
use Rattle.std.specs.Prelude.{◌≡◌, ℕ, zero, suc, List, [], ◌∷◌, Option, None, Some}
use Rattle.std.specs.List.{AllByRecursion}
use Rattle.aria_keypage.specs.declared.kind.Kind.TheVariants.{Leaf}
use Rattle.aria_keypage.specs.Item.{Item}
use Rattle.aria_key.specs.declared.path.Passed.{Passed}
use Rattle.aria_key.specs.Tree.{Placed, items_on, IsLevel, Holds, HoldAll, IsTree}
use Rattle.aria_key.specs.Climb.{above, Over, IsPath, onto}
use Rattle.aria_key.specs.Rest.{IsCursor}

-- the entry of the item at a position, from 0 on; none behind the last
abbrev pub entry_in : List Item → ℕ → Option (List ℕ)
entry_in [] n = None
entry_in (x ∷ xs) zero = Some x.entry
entry_in (x ∷ xs) (suc n) = entry_in xs n

-- these nodes are the way to a page, and the page behind it begins at `next`
pub record IsWayTo (bodies : ℕ → Option (List ℕ)) (count : ℕ) (path : List Passed) (next : Option (List ℕ)) : Type 0 where
  pub key : ℕ
  pub root : ℕ
  pub ups : List (List Placed)
  pub n : ℕ
  pub over : Over key root ups
  pub hold : HoldAll bodies count ups
  pub path_is : IsPath ups n path
  pub next_is : next ≡ entry_in (above root ups) (suc n)

-- a cursor in a tree with this root, and the entries that are still to come
pub record HasRest (bodies : ℕ → Option (List ℕ)) (count root page at : ℕ) (next : Option (List ℕ)) (rest : List Item) : Type 0 where
  pub key : ℕ
  pub levels : List (List Placed)
  pub walk : List Item
  pub tree : IsTree bodies count key root levels walk
  pub ups : List (List Placed)
  pub leaves : List Placed
  pub whole : onto ups (leaves ∷ []) ≡ levels
  pub named : List Item
  pub level : IsLevel Leaf key named leaves
  pub hold : AllByRecursion (Holds bodies count) leaves
  pub all : walk ≡ items_on leaves
  pub cursor : IsCursor leaves page at next rest
