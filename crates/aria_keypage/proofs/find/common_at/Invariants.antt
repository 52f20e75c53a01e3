use Rattle.std.proofs.Common.{◌≡◌, ◌≤◌, length, List}
use Rattle.aria_keypage.specs.Item.{Item, entry_before}
use Rattle.aria_keypage.specs.Packed.{common_length, ArePacked, IsLeft}
use Rattle.aria_keypage.proofs.find.common_at.Given as goal

-- what is had in common with the entry before the position
abbrev pub invariant-loop-at : goal.invariant-loop-at
invariant-loop-at l = record { within : l.common ≤ length l.entry; there : (xs : List Item) → ArePacked l.width xs l.items → l.count ≤ length xs → IsLeft l.width xs l.at l.rest × (l.common ≡ common_length (entry_before xs l.at) l.entry) }
