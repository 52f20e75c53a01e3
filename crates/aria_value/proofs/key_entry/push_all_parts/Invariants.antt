use Rattle.std.proofs.Common.{◌≡◌, ◌++◌, take}
use Rattle.aria_value.specs.Entry.{prefix_bytes}
use Rattle.aria_value.proofs.key_entry.push_all_parts.Given as goal

-- the parts so far are written
abbrev pub invariant-loop-value : goal.invariant-loop-value
invariant-loop-value l = l.out ≡ l.initial.out ++ prefix_bytes (take l.value-index l.values)
