use Rattle.aria_memory.proofs.Stopping.{replied_has, replied_err}
use Rattle.aria_memory.proofs.tables.Tables.execute.Goals as goal

pub returns-clause-performs : goal.returns-clause-performs
returns-clause-performs c = rw c.reply_of.ensures (replied_has c.perform.result _ c.perform.ensures.performs)

pub returns-clause-kept : goal.returns-clause-kept
returns-clause-kept c = rw c.reply_of.ensures (replied_has c.perform.result _ c.perform.ensures.kept)

pub returns-clause-err : goal.returns-clause-err
returns-clause-err c = rw c.reply_of.ensures (replied_err _ c.perform.result c.perform.ensures.err)
