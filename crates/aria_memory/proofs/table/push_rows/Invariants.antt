use Rattle.std.proofs.Common.{◌≡◌, ◌++◌, map, take}
use Rattle.std.specs.List.{flat_map}
use Rattle.aria_model.specs.Text.{row_text}
use Rattle.aria_memory.proofs.table.push_rows.Given as goal

-- the rows so far are told
abbrev pub invariant-loop-row : goal.invariant-loop-row
invariant-loop-row l = l.text ≡ l.initial.text ++ flat_map row_text (map (λ r. r.now) (take l.row-index l.rows))
