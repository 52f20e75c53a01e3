use Rattle.aria_page.specs.Number.{number}
use Rattle.aria_record.specs.RecordKind.{kind_byte}
use Rattle.aria_record.specs.Spelled.{body_bytes}
use Rattle.aria_record.proofs.Lengths.{behind, has_place, length_fits, entry_set}
use Rattle.aria_record.proofs.record_codec.RecordStored.write.Goals as goal

pub set_length-requires-clause-place : goal.set_length-requires-clause-place
set_length-requires-clause-place c = has_place (behind _ (body_bytes c.args.self.now) c.in_ok-at.ensures.place c.in_ok-at.ensures.begun c.in_ok-push_body.ensures)

pub set_length-requires-clause-fits : goal.set_length-requires-clause-fits
set_length-requires-clause-fits c = length_fits (behind _ (body_bytes c.args.self.now) c.in_ok-at.ensures.place c.in_ok-at.ensures.begun c.in_ok-push_body.ensures) c.requires.size

pub returns : goal.returns
returns c =
    let written = behind _ (body_bytes c.args.self.now) c.in_ok-at.ensures.place c.in_ok-at.ensures.begun c.in_ok-push_body.ensures in
    record { spelled = rw c.kind.ensures at (entry_set c.args.out.now (number 1 (kind_byte c.kind.result)) written c.set_length.ensures); holds = tt }
