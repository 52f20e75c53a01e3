use Rattle.std.proofs.Common.{◌∙◌}
use Rattle.aria_value.proofs.Definitions.{columns_here, columns_past}
use Rattle.aria_value.proofs.definition.key_columns.Goals as goal

pub returns-in-Some : goal.returns-in-Some
returns-in-Some c = c.as_slice.ensures ∙ columns_here c.args.keys.now c.args.number c.in-Some.key.now c.in-Some.ensures.lookup.3.0 c.in-Some.ensures.lookup.1

pub returns-in-None : goal.returns-in-None
returns-in-None c = columns_past c.args.keys.now c.args.number c.in-None.ensures.lookup.3
