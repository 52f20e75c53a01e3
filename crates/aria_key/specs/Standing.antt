-- A tree on the way up: all pages hold what the levels say, and the levels above one owe a name.
use Rattle.std.specs.Prelude.{ℕ, ◌+◌, ◌≤◌, List, ◌∷◌, Option}
use Rattle.aria_keypage.specs.Item.{Item}
use Rattle.aria_key.specs.Tree.{Placed, HoldAll}
use Rattle.aria_key.specs.Climb.{Owes}
use Rattle.aria_key.specs.Owned.{times_in}

pub record Standing (bodies : ℕ → Option (List ℕ)) (count key root : ℕ) (ups : List (List Placed)) (l : List Placed) (downs : List (List Placed)) (walk : List Item) (n : ℕ) (x : Item) : Type 0 where
  pub owes : Owes key root ups l downs walk n x
  pub hold_ups : HoldAll bodies count ups
  pub hold : HoldAll bodies count (l ∷ downs)
  pub once : (m : ℕ) → times_in m ups + times_in m (l ∷ downs) ≤ 1
