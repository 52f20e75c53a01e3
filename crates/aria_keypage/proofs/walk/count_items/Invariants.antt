use Rattle.std.proofs.Common.{◌≤◌, length, take}
use Rattle.aria_keypage.proofs.Counted.{Counted}
use Rattle.aria_keypage.proofs.walk.count_items.Given as goal

-- what was read are items, and the last entry stands in front of the buffer
abbrev pub invariant-loop-rest : goal.invariant-loop-rest
invariant-loop-rest l = record { counted : Counted l.width l.items (take l.len l.entry) l.rest l.count; len : l.len ≤ 1000 }

abbrev pub decreases-loop-rest : goal.decreases-loop-rest
decreases-loop-rest l = length l.rest
