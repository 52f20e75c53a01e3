use Rattle.std.proofs.Common.{◌-◌, arith, refl}
use Rattle.aria_record.specs.declared.entries.Entries.{Entries}
use Rattle.aria_record.proofs.InPlaces.{no_entries, no_frame, no_entry, first_entry}
use Rattle.aria_record.proofs.entries.Entries.split_first.Goals as goal

pub returns-then-self-eq0 : goal.returns-then-self-eq0
returns-then-self-eq0 c = λ records e. no_entries c.args.self.left c.args.self.rest.now records c.if-self-eq0.true e

pub returns-in-None : goal.returns-in-None
returns-in-None c = λ records e. no_frame c.args.self.left c.args.self.rest.now records (omega (arith, c.if-self-eq0.false)) (rw c.in-None.is at c.frame_at.ensures) e

pub returns-in-None-entry_of : goal.returns-in-None-entry_of
returns-in-None-entry_of c = λ records e.
    no_entry c.args.self.left c.args.self.rest.now records c.in-Some.kind c.in-Some.body.now c.in-Some.rest.now (omega (arith, c.if-self-eq0.false)) (rw c.in-Some.is at c.frame_at.ensures) (rw c.in-None-entry_of.is at c.entry_of.ensures) e

pub returns-in-Some-entry_of : goal.returns-in-Some-entry_of
returns-in-Some-entry_of c = λ records e.
    let others : Entries = record { left = c.args.self.left - 1; rest = c.in-Some.rest } in
    first_entry c.args.self.left c.args.self.rest.now records c.in-Some.kind c.in-Some.body.now c.in-Some-entry_of.entry others (omega (arith, c.if-self-eq0.false)) (rw c.in-Some.is at c.frame_at.ensures) refl
    (rw c.in-Some-entry_of.is at c.entry_of.ensures) e
