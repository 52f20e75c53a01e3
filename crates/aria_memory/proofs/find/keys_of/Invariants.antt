use Rattle.std.proofs.Common.{◌≡◌, take}
use Rattle.std.specs.Prelude.{map}
use Rattle.aria_value.specs.Order.{key_columns}
use Rattle.aria_memory.specs.Keyed.{values_in}
use Rattle.aria_memory.proofs.find.keys_of.Given as goal

-- the keys of the rows so far
abbrev pub invariant-loop-row : goal.invariant-loop-row
invariant-loop-row l = l.keys.items ≡ map (values_in (key_columns l.definition.keys 0)) (map (λ r. r.now) (take l.row-index l.found))
