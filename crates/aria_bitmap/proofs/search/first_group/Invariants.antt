use Rattle.std.proofs.Common.{◌-◌, ◌≡◌, ℕ, ◌<◌, ◌≤◌, false}
use Rattle.aria_bitmap.specs.Pattern.{group}
use Rattle.aria_bitmap.specs.Sought.{any_sought}
use Rattle.aria_bitmap.proofs.search.first_group.Given as goal

-- none before has one
abbrev pub invariant-loop-nth : goal.invariant-loop-nth
invariant-loop-nth l = (l.from ≤ l.nth) × (l.nth ≤ l.to) × ((g : ℕ) → l.from ≤ g → g < l.nth → any_sought l.sought 8 (group l.body g) ≡ false)

abbrev pub decreases-loop-nth : goal.decreases-loop-nth
decreases-loop-nth l = l.to - l.nth
