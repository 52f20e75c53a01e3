use Rattle.std.proofs.Common.{◌≡◌, ◌+◌, ◌-◌, length, drop}
use Rattle.aria_keypage.specs.Packed.{common_length}
use Rattle.aria_keypage.proofs.entry.common_length.Given as goal

-- what is had in common from here on comes on top
abbrev pub invariant-loop-at : goal.invariant-loop-at
invariant-loop-at l = common_length l.a l.b ≡ l.at + common_length (drop l.at l.a) (drop l.at l.b)

abbrev pub decreases-loop-at : goal.decreases-loop-at
decreases-loop-at l = length l.a - l.at
