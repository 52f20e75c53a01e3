use Rattle.std.proofs.Common.{◌≡◌, ◌++◌, take}
use Rattle.aria_value.specs.Entry.{parts}
use Rattle.aria_value.proofs.key_entry.push_parts.Given as goal

-- the parts so far are written
abbrev pub invariant-loop-column : goal.invariant-loop-column
invariant-loop-column l = l.out ≡ l.initial.out ++ parts l.row (take l.column-index l.columns)
