use Rattle.aria_record.proofs.InPlaces.{redo_told, other_tells}
use Rattle.aria_record.proofs.entries.entry_of.Goals as goal

pub returns-in-Redo : goal.returns-in-Redo
returns-in-Redo c = λ r e. redo_told c.in-Redo.kind c.args.body.now r c.redo_of.result c.redo_of.ensures (rw c.in-Redo.is at e)

pub returns-in_default : goal.returns-in_default
returns-in_default c = λ r e. other_tells c.args.kind c.args.body.now r c.in_default.not-Redo e
