use Rattle.aria_value.proofs.Entries.{order_of, length_of}
use Rattle.aria_value.proofs.key_entry.entry.Goals as goal

pub returns-clause-order : goal.returns-clause-order
returns-clause-order c = λ other is other_is. order_of c.args.definition.now c.args.key c.args.row.now other c.entry_of.result c.entry_of.ensures is other_is

pub returns-clause-length : goal.returns-clause-length
returns-clause-length c = λ is row_is low. length_of c.args.definition.now c.args.key c.args.row.now c.entry_of.result c.entry_of.ensures is row_is low
