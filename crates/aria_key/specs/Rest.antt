-- The entries of a tree from one on.
use Rattle.std.specs.Prelude.{◌≡◌, if◌then◌else◌, ℕ, List, [], ◌∷◌, ◌++◌, drop, Option, Some, None}
use Rattle.aria_keypage.specs.Item.{Item, is_below}
use Rattle.aria_key.specs.Tree.{Placed, items_on}

-- the entries from the first that isn't below a given one
abbrev pub from : List ℕ → List Item → List Item
from entry [] = []
from entry (x ∷ xs) = if is_below x.entry entry then from entry xs else x ∷ xs

-- the lowest entry that the next page may have
abbrev pub next_low : List Placed → Option (List ℕ)
next_low [] = None
next_low (p ∷ l) = Some p.low

-- a cursor before an item of a leaf, that knows where the next leaf begins: what is left of the tree's entries
pub record IsCursor (leaves : List Placed) (page at : ℕ) (next : Option (List ℕ)) (rest : List Item) : Type 0 where
  pub before : List Placed
  pub here : Placed
  pub behind : List Placed
  pub parts : leaves ≡ before ++ here ∷ behind
  pub page_is : here.page ≡ page
  pub next_is : next ≡ next_low behind
  pub rest_is : rest ≡ drop at here.content.items ++ items_on behind
