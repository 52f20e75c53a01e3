use Rattle.std.proofs.Common.{arith, refl}
use Rattle.aria_record.proofs.Writers.{group_filled, is_whole, still_writes, is_long, is_short}
use Rattle.aria_record.proofs.group_writer.GroupWriter.seal.Goals as goal

pub returns-clause-sealed : goal.returns-clause-sealed
returns-clause-sealed c = λ records w shape. group_filled c.args.self.now c.fill_head.new.bytes records w c.fill_head.ensures

pub returns-clause-group : goal.returns-clause-group
returns-clause-group c = λ records w shape. is_whole c.args.self.now records (omega arith) w shape

pub returns-clause-same : goal.returns-clause-same
returns-clause-same c = λ records w. still_writes c.args.self.now _ records w c.fill_head.ensures refl

pub returns-then-size-lt-HEAD_BYTES-clause-sealed : goal.returns-then-size-lt-HEAD_BYTES-clause-sealed
returns-then-size-lt-HEAD_BYTES-clause-sealed c = λ records w shape. absurd (omega (arith, is_long c.args.self.now records w shape, c.len-size.ensures))

pub returns-then-size-lt-HEAD_BYTES-clause-group : goal.returns-then-size-lt-HEAD_BYTES-clause-group
returns-then-size-lt-HEAD_BYTES-clause-group c = λ records w shape. absurd (omega (arith, is_long c.args.self.now records w shape, c.len-size.ensures))

pub returns-then-size-clause-sealed : goal.returns-then-size-clause-sealed
returns-then-size-clause-sealed c = λ records w shape. absurd (omega (arith, is_short c.args.self.now records (omega arith) w, c.len-size.ensures))

pub returns-then-size-clause-group : goal.returns-then-size-clause-group
returns-then-size-clause-group c = λ records w shape. absurd (omega (arith, is_short c.args.self.now records (omega arith) w, c.len-size.ensures))
