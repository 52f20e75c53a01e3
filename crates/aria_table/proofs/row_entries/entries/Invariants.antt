use Rattle.std.proofs.Common.{◌≡◌, map}
use Rattle.std.specs.List.{range_with_len}
use Rattle.aria_value.specs.Entry.{entry_bytes}
use Rattle.aria_table.proofs.row_entries.entries.Given as goal

-- the entries of the keys so far
abbrev pub invariant-loop-key : goal.invariant-loop-key
invariant-loop-key l = l.out ≡ map (λ key. entry_bytes l.definition key l.row) (range_with_len 0 l.key)
