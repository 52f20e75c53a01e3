use Rattle.std.proofs.Common.{◌≡◌, ◌++◌, take, codes}
use Rattle.std.specs.List.{flat_map}
use Rattle.aria_model.specs.Text.{value_text}
use Rattle.aria_model.proofs.text.push_further_values.Given as goal

-- the values so far are written
abbrev pub invariant-loop-value : goal.invariant-loop-value
invariant-loop-value l = l.out ≡ l.initial.out ++ flat_map (λ value. codes "," ++ value_text value) (take l.value-index l.values)
