use Rattle.std.proofs.Common.{subst}
use Rattle.aria_page.specs.declared.lsn.Lsn.{Lsn}
use Rattle.aria_record.specs.Logged.{Logged}
use Rattle.aria_recovery.specs.Noted.{NotesAll, SettlesGroup}
use Rattle.aria_recovery.proofs.Adding.{lives_push}
use Rattle.aria_recovery.proofs.Noting.{when_ok}
use Rattle.aria_recovery.proofs.lives.add_group.Goals as goal

pub returns : goal.returns
returns c gs place has at_is =
    let g : Logged = record { at = place; group = c.args.records.now } in
    when_ok c.settle.result c.settle.ensures (λ settled.
    lives_push c.args.lives.now c.note_all.new.lives c.settle.new.lives gs g has
    (subst (λ (l : Lsn). NotesAll l c.args.records.now c.args.lives.now c.note_all.new.lives) at_is c.in_ok-note_all.ensures)
    (subst (λ (l : Lsn). SettlesGroup l c.args.records.now c.note_all.new.lives c.settle.new.lives) at_is settled))
