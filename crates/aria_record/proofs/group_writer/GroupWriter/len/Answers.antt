use Rattle.std.proofs.Common.{arith, length-drop}
use Rattle.aria_record.proofs.Writers.{length-group}
use Rattle.aria_record.proofs.group_writer.GroupWriter.len.Goals as goal

pub returns-then-len-lt-HEAD_BYTES-clause-spelled : goal.returns-then-len-lt-HEAD_BYTES-clause-spelled
returns-then-len-lt-HEAD_BYTES-clause-spelled c = λ records w. omega (arith, length-group c.args.self.now records w, length-drop 5 c.args.self.now.bytes, c.len.ensures)

pub returns-clause-spelled : goal.returns-clause-spelled
returns-clause-spelled c = λ records w. omega (arith, length-group c.args.self.now records w, length-drop 5 c.args.self.now.bytes, c.len.ensures, c.len-2.ensures)
