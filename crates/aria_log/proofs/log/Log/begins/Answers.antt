use Rattle.aria_log.proofs.RunReads.{last_is, loaded_is}
use Rattle.aria_log.proofs.log.Log.begins.Goals as goal

pub returns-then-number-self : goal.returns-then-number-self
returns-then-number-self c = λ piece e. (last_is c.args.self.now c.args.reader.now c.args.number piece c.if-number-self.true e).0

pub returns-else-number-self : goal.returns-else-number-self
returns-else-number-self c = λ piece e. (loaded_is c.args.self.now c.args.reader.now c.args.number piece c.if-number-self.false e).0
