use Rattle.std.proofs.Common.{◌≡◌, map, take}
use Rattle.aria_memory.specs.Updated.{change_of}
use Rattle.aria_memory.proofs.update.changes_of.Given as goal

-- the changes so far are those of the rows so far
abbrev pub invariant-loop-row : goal.invariant-loop-row
invariant-loop-row l = l.changes.items ≡ map (change_of l.definition l.settings) (map (λ r. r.now) (take l.row-index l.found))
