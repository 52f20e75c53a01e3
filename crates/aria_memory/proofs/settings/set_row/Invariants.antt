use Rattle.std.proofs.Common.{◌≡◌, ◌++◌, drop}
use Rattle.std.specs.Prelude.{map}
use Rattle.std.specs.Option.{option_map}
use Rattle.aria_memory.specs.LastSet.{with_set}
use Rattle.aria_memory.proofs.settings.set_row.Given as goal

-- the values so far and those to come are the row with what its columns are set to
abbrev pub invariant-loop-nth : goal.invariant-loop-nth
invariant-loop-nth l = l.values.items ++ with_set (drop l.nth (map (option_map (λ v. v.now)) l.sets)) (drop l.nth l.row) ≡ with_set (map (option_map (λ v. v.now)) l.sets) l.row
