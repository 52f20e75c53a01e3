use Rattle.std.proofs.Common.{◌≡◌, length, List}
use Rattle.aria_keypage.specs.Item.{Item}
use Rattle.aria_keypage.specs.Packed.{ArePacked, IsLeft}
use Rattle.aria_keypage.proofs.Middle.{Passed}
use Rattle.aria_keypage.proofs.split.middle.Given as goal

-- each position up to here is nearer to half than the one before it
abbrev pub invariant-loop-at : goal.invariant-loop-at
invariant-loop-at l = (xs : List Item) → ArePacked l.width xs l.items → l.count ≡ length xs → IsLeft l.width xs l.at l.rest × Passed l.width xs l.size l.at
