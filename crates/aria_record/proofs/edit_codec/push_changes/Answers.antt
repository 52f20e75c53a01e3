use Rattle.aria_record.proofs.Lent.{all_lent}
use Rattle.aria_record.proofs.edit_codec.push_changes.Goals as goal

pub returns : goal.returns
returns c = all_lent c.args.edits.now c.loop-edit.edit-index c.args.out.now _ c.loop-edit-test.false c.loop-edit.invariant
