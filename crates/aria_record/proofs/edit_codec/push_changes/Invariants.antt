use Rattle.std.proofs.Common.{◌≡◌, ◌++◌, take}
use Rattle.std.specs.List.{flat_map}
use Rattle.aria_page.specs.Change.{edit_of}
use Rattle.aria_record.specs.Spelled.{edit_bytes}
use Rattle.aria_record.proofs.edit_codec.push_changes.Given as goal

-- those so far are written
abbrev pub invariant-loop-edit : goal.invariant-loop-edit
invariant-loop-edit l = l.out ≡ l.initial.out ++ flat_map (λ e. edit_bytes (edit_of e)) (take l.edit-index l.edits)
