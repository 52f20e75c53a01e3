use Rattle.std.proofs.Common.{◌-◌, ◌≡◌, ℕ, ◌<◌, ◌≤◌, false, get_or}
use Rattle.aria_bitmap.specs.Pattern.{pattern}
use Rattle.aria_bitmap.proofs.search.first_sought.Given as goal

-- none before is sought
abbrev pub invariant-loop-nth : goal.invariant-loop-nth
invariant-loop-nth l = (l.from ≤ l.nth) × (l.nth ≤ l.to) × ((m : ℕ) → l.from ≤ m → m < l.nth → get_or l.sought (pattern l.body m) false ≡ false)

abbrev pub decreases-loop-nth : goal.decreases-loop-nth
decreases-loop-nth l = l.to - l.nth
