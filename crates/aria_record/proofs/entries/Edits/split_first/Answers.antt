use Rattle.std.proofs.Common.{◌-◌, arith, refl}
use Rattle.aria_record.specs.declared.entries.Edits.{Edits}
use Rattle.aria_record.proofs.InPlaces.{no_edits, no_edit, first_edit}
use Rattle.aria_record.proofs.entries.Edits.split_first.Goals as goal

pub returns-then-self-eq0-clause-first : goal.returns-then-self-eq0-clause-first
returns-then-self-eq0-clause-first c = λ edits e. no_edits c.args.self.left c.args.self.rest.now edits c.if-self-eq0.true e

pub returns-in-None-clause-first : goal.returns-in-None-clause-first
returns-in-None-clause-first c = λ edits e. no_edit c.args.self.left c.args.self.rest.now edits (omega (arith, c.if-self-eq0.false)) (rw c.in-None.is at c.change_at.ensures.read) e

pub returns-in-Some-clause-first : goal.returns-in-Some-clause-first
returns-in-Some-clause-first c = λ edits e.
    let others : Edits = record { left = c.args.self.left - 1; rest = c.in-Some.rest } in
    first_edit c.args.self.left c.args.self.rest.now edits c.in-Some.edit others (omega (arith, c.if-self-eq0.false)) (rw c.in-Some.is at c.change_at.ensures.read) refl e
