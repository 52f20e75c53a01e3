use Rattle.std.proofs.Common.{◌≡◌, ◌+◌, ◌-◌, ◌<◌, ◌≤◌, ℕ}
use Rattle.aria_page.specs.Page.{page_body}
use Rattle.aria_bitmap.specs.Pattern.{pattern}
use Rattle.aria_block.proofs.run.is_free_run.Given as goal

-- the pages up to here are promised free
abbrev pub invariant-loop-at : goal.invariant-loop-at
invariant-loop-at l = record {
  high : l.at ≤ l.nth + l.n;
  low : l.nth ≤ l.at;
  free : (m : ℕ) → l.nth ≤ m → m < l.at → pattern (page_body l.map) m ≡ 0;
}

abbrev pub decreases-loop-at : goal.decreases-loop-at
decreases-loop-at l = l.nth + l.n - l.at
