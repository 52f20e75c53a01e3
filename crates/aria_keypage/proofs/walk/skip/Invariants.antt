use Rattle.std.proofs.Common.{◌≤◌, length, List}
use Rattle.aria_keypage.specs.Item.{Item}
use Rattle.aria_keypage.specs.Packed.{ArePacked, IsLeft}
use Rattle.aria_keypage.proofs.walk.skip.Given as goal

-- the items from the position on are left
abbrev pub invariant-loop-at : goal.invariant-loop-at
invariant-loop-at l = (xs : List Item) → ArePacked l.width xs l.items → l.count ≤ length xs → IsLeft l.width xs l.at l.rest
