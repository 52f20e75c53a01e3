use Rattle.std.proofs.Common.{◌≡◌, ◌+◌, drop}
use Rattle.aria_value.specs.Stored.{row_length}
use Rattle.aria_value.proofs.row.is_too_long.Given as goal

-- the room is what the values so far leave of 65536 bytes
abbrev pub invariant-loop-value : goal.invariant-loop-value
invariant-loop-value l = l.room + row_length l.row ≡ 65536 + row_length (drop l.value-index l.row)
