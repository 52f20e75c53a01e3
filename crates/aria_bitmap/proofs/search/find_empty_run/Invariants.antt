use Rattle.std.proofs.Common.{◌-◌, ℕ, ◌<◌, ◌≤◌}
use Rattle.aria_page.specs.Page.{page_body}
use Rattle.aria_bitmap.specs.Promise.{IsFreeRun}
use Rattle.aria_bitmap.proofs.search.find_empty_run.Given as goal

-- no run begins before
abbrev pub invariant-loop-from : goal.invariant-loop-from
invariant-loop-from l = (l.from ≤ 21808) × ((m : ℕ) → m < l.from → IsFreeRun (page_body l.bitmap) l.pages m → ⊥)

abbrev pub decreases-loop-from : goal.decreases-loop-from
decreases-loop-from l = 21808 - l.from
