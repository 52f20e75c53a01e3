use Rattle.std.proofs.Common.{◌≡◌, length}
use Rattle.aria_memory.specs.Updated.{taken_back}
use Rattle.aria_memory.proofs.update.take_back.Given as goal

-- what is left to take back leaves what all of it would have left
abbrev pub invariant-loop-change : goal.invariant-loop-change
invariant-loop-change l = taken_back l.done.items l.rows.entries ≡ taken_back l.fn.done.items l.fn.rows.entries

abbrev pub decreases-loop-change : goal.decreases-loop-change
decreases-loop-change l = length l.done.items
