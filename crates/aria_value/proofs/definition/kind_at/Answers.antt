use Rattle.aria_value.proofs.Definitions.{kind_here, kind_past}
use Rattle.aria_value.proofs.definition.kind_at.Goals as goal

pub returns-in-Some : goal.returns-in-Some
returns-in-Some c = kind_here c.args.columns.now c.args.number c.in-Some.column.now c.in-Some.ensures.lookup.3.0 c.in-Some.ensures.lookup.1

pub returns-in-None : goal.returns-in-None
returns-in-None c = kind_past c.args.columns.now c.args.number c.in-None.ensures.lookup.3
