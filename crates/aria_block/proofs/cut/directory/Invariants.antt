use Rattle.std.proofs.Common.{◌≡◌, ◌*◌, ◌-◌, ◌≤◌, ◌++◌, take}
use Rattle.aria_block.specs.Cut.{left_directory}
use Rattle.aria_block.proofs.cut.directory.Given as goal

-- the entries of the slots from the highest on are written
abbrev pub invariant-loop-slot : goal.invariant-loop-slot
invariant-loop-slot l = (l.slot ≤ l.left) × (l.to ≡ 4 * (l.left - l.slot)) × (take l.to l.bytes ++ left_directory l.body l.nth l.at l.len l.slot ≡ left_directory l.body l.nth l.at l.len l.left)

abbrev pub decreases-loop-slot : goal.decreases-loop-slot
decreases-loop-slot l = l.slot
