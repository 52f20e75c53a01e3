use Rattle.std.proofs.lemmas.Result.{on_ok_weaker}
use Rattle.aria_record.proofs.Lent.{list_lent}
use Rattle.aria_record.proofs.edit_codec.push_all_changes.Goals as goal

pub returns : goal.returns
returns c = on_ok_weaker c.push_changes.result (list_lent c.args.edits.now c.args.out.now c.push_u8.new.out c.push_changes.new.out c.in_ok-push_u8.ensures) c.push_changes.ensures
