use Rattle.std.proofs.Common.{◌≡◌, ◌⊎◌, ◌<◌, ◌≤◌, ℕ}
use Rattle.aria_bitmap.specs.Code.{entry}
use Rattle.aria_block.proofs.cut.entries_left.Given as goal

-- the entries above aren't used
abbrev pub invariant-loop-left : goal.invariant-loop-left
invariant-loop-left l = (l.left ≤ l.entries) × ((i : ℕ) → l.left ≤ i → i < l.entries → (i ≡ l.nth) ⊎ (entry l.body i ≡ 0))

abbrev pub decreases-loop-left : goal.decreases-loop-left
decreases-loop-left l = l.left
