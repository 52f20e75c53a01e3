use Rattle.std.proofs.Common.{◌≡◌, ◌≤◌, length, List}
use Rattle.aria_keypage.specs.Item.{Item, entry_before}
use Rattle.aria_keypage.specs.Packed.{ArePacked, IsLeft}
use Rattle.aria_keypage.proofs.walk.walk_to.Given as goal

-- the items from the position on are left, and the entry before it is put together
abbrev pub invariant-loop-at : goal.invariant-loop-at
invariant-loop-at l = (xs : List Item) → ArePacked l.width xs l.items → l.count ≤ length xs → IsLeft l.width xs l.at l.rest × (l.entry.items ≡ entry_before xs l.at)
