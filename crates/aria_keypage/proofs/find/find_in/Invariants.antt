use Rattle.std.proofs.Common.{◌≡◌, ◌≤◌, length, List}
use Rattle.aria_keypage.specs.Item.{Item}
use Rattle.aria_keypage.specs.Packed.{ArePacked}
use Rattle.aria_keypage.proofs.Sought.{Sought}
use Rattle.aria_keypage.proofs.find.find_in.Given as goal

-- all items before the position are below what is sought
abbrev pub invariant-loop-at : goal.invariant-loop-at
invariant-loop-at l = record { within : l.common ≤ length l.entry; sought : (xs : List Item) → ArePacked l.width xs l.items → l.count ≡ length xs → Sought l.width xs l.entry l.at l.rest l.common }
