use Rattle.std.proofs.Common.{◌≡◌}
use Rattle.aria_memory.specs.Keyed.{values_cmp}
use Rattle.aria_memory.specs.Undone.{undone}
use Rattle.aria_memory.proofs.insert.take_back.Given as goal

-- what is left to take out leaves what all of it would have left
abbrev pub invariant-loop-key : goal.invariant-loop-key
invariant-loop-key l = undone values_cmp l.put.items l.rows.entries ≡ undone values_cmp l.fn.put.items l.fn.rows.entries

abbrev pub decreases-loop-key : goal.decreases-loop-key
decreases-loop-key l = goal.left-loop-key l
