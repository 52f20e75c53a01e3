-- Two pages side by side, made into one.
use Rattle.std.specs.Prelude.{ℕ, List, ◌∷◌, ◌++◌}
use Rattle.aria_keypage.specs.declared.kind.Kind.{Kind}
use Rattle.aria_keypage.specs.declared.kind.Kind.TheVariants.{Leaf, Node}
use Rattle.aria_keypage.specs.Item.{Item}
use Rattle.aria_keypage.specs.Content.{Content}

-- what a page takes over from the one to its right: its items, and in a node before them the entry between the two with its first child
abbrev pub taken_over : Kind → List ℕ → ℕ → List Item → List Item
taken_over Leaf between first items = items
taken_over Node between first items = (record { entry = between; to = first }) ∷ items

-- the page with all that it takes over
abbrev pub joined : Content → List ℕ → Content → Content
joined left between right = record left { items = left.items ++ taken_over left.kind between right.first right.items }
