use Rattle.std.proofs.Common.{◌≡◌, ◌++◌, length}
use Rattle.std.specs.List.{flat_map}
use Rattle.aria_model.specs.Text.{quoted}
use Rattle.aria_model.proofs.text.push_quoted.Given as goal

-- what is told so far, and the rest between quotes, are the whole
abbrev pub invariant-loop-run : goal.invariant-loop-run
invariant-loop-run l = l.out ++ flat_map quoted l.rest ≡ l.initial.out ++ flat_map quoted l.bytes

abbrev pub decreases-loop-run : goal.decreases-loop-run
decreases-loop-run l = length l.rest
