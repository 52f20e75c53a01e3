-- The children of a node.
use Rattle.std.specs.Prelude.{ℕ, zero, suc}
use Rattle.aria_keypage.specs.Item.{item_at}
use Rattle.aria_keypage.specs.Content.{Content}

-- from left to right: the first one, and those of the items
abbrev pub child_at : Content → ℕ → ℕ
child_at c zero = c.first
child_at c (suc n) = (item_at c.items n).to
