use Rattle.std.proofs.Common.{refl, lit≤}
use Rattle.aria_record.proofs.Writers.{pushes}
use Rattle.aria_record.proofs.group_writer.GroupWriter.push_drop.Goals as goal

pub returns : goal.returns
returns c = pushes c.args.self.now _ c.make_head.new.out c.in_ok-make_head.ensures.place c.in_ok-make_head.ensures.same c.in_ok-push_drop_entry.ensures (lit≤ tt) refl
