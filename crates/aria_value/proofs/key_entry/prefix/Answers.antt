use Rattle.aria_value.proofs.Entries.{begins_of}
use Rattle.aria_value.proofs.key_entry.prefix.Goals as goal

pub returns-clause-begins : goal.returns-clause-begins
returns-clause-begins c = λ row is fits types. begins_of c.args.definition.now c.args.key row c.args.values.now c.prefix_of.result c.prefix_of.ensures is types fits
