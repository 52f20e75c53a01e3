-- The pages that trees have.
use Rattle.std.specs.Prelude.{◌==◌, if◌then◌else◌, ℕ, ◌+◌, List, [], ◌∷◌}
use Rattle.std.specs.BTreeMap.{is_at}
use Rattle.std.specs.Ordering.{nat_cmp}
use Rattle.std.specs.Cmp.Lexicographic.{slice_cmp}
use Rattle.aria_keypage.specs.Item.{Item, is_below}
use Rattle.aria_key.specs.Tree.{Placed}

-- how often page n is one of a level's, or of levels'
abbrev pub times_on : ℕ → List Placed → ℕ
times_on n [] = 0
times_on n (p ∷ l) = (if n == p.page then 1 else 0) + times_on n l

abbrev pub times_in : ℕ → List (List Placed) → ℕ
times_in n [] = 0
times_in n (l ∷ ls) = times_on n l + times_in n ls

-- the entries with one more in its place
abbrev pub with_entry : Item → List Item → List Item
with_entry x [] = x ∷ []
with_entry x (y ∷ ys) = if is_below y.entry x.entry then y ∷ with_entry x ys else x ∷ y ∷ ys

-- the items without the first one of an entry
abbrev pub without_entry : List ℕ → List Item → List Item
without_entry entry [] = []
without_entry entry (y ∷ ys) = if is_at (slice_cmp nat_cmp entry) y.entry then ys else y ∷ without_entry entry ys
