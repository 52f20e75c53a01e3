use Rattle.aria_record.proofs.Writers.{number_put, head_filled}
use Rattle.aria_record.proofs.group_writer.fill_head.Goals as goal

pub returns : goal.returns
returns c = head_filled c.args.bytes.now c.overwrite.new.self c.set_length.new.out c.args.count c.ranges.count.fits (number_put c.args.bytes.now c.overwrite.new.self c.args.count c.requires.place c.overwrite.ensures) c.set_length.ensures
