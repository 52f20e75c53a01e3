use Rattle.std.proofs.Common.{◌≡◌, ◌+◌, drop}
use Rattle.std.specs.List.{sum_by}
use Rattle.aria_value.specs.Defined.{kind_at, longest_part}
use Rattle.aria_value.proofs.definition_check.room_behind_all.Given as goal

-- the room is what the columns so far leave of the limit
abbrev pub invariant-loop-number : goal.invariant-loop-number
invariant-loop-number l = l.room + sum_by (λ c. longest_part (kind_at l.columns c)) l.numbers ≡ l.limit + sum_by (λ c. longest_part (kind_at l.columns c)) (drop l.number-index l.numbers)
