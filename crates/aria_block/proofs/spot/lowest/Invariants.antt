use Rattle.std.proofs.Common.{◌≡◌, true}
use Rattle.aria_bitmap.specs.Code.{all_used}
use Rattle.aria_block.proofs.spot.lowest.Given as goal

-- the entries so far are used
abbrev pub invariant-loop-nth : goal.invariant-loop-nth
invariant-loop-nth l = all_used l.body l.nth ≡ true
