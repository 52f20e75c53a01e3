use Rattle.std.proofs.Common.{refl, arith}
use Rattle.aria_page.specs.Change.{edits_of}
use Rattle.aria_record.proofs.Lent.{lent_length, all_within}
use Rattle.aria_record.proofs.Sizes.{redo_low}
use Rattle.aria_record.proofs.Writers.{pushes}
use Rattle.aria_record.proofs.group_writer.GroupWriter.push_redo.Goals as goal

pub returns : goal.returns
returns c = pushes c.args.self.now _ c.make_head.new.out c.in_ok-make_head.ensures.place c.in_ok-make_head.ensures.same c.in_ok-push_redo_entry.ensures (redo_low (edits_of c.args.edits.now) (all_within c.args.edits.now c.requires.within) (omega (arith, lent_length c.args.edits.now, c.requires.few))) refl
