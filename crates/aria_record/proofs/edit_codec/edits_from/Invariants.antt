use Rattle.std.proofs.Common.{◌≡◌, ◌-◌}
use Rattle.aria_page.specs.Items.{items_at}
use Rattle.aria_page.proofs.Items.{with_front}
use Rattle.aria_record.specs.Reading.{read_edit}
use Rattle.aria_record.proofs.edit_codec.edits_from.Given as goal

-- The edits so far, and those that are left, are those of the whole.
abbrev pub invariant-loop : goal.invariant-loop
invariant-loop l = with_front l.edits (items_at read_edit (l.count - l.counter) l.rest) ≡ items_at read_edit l.count l.bytes
