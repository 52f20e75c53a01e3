use Rattle.aria_record.specs.Writing.{last_record}
use Rattle.aria_record.proofs.Sizes.{last_fits, last_most, last_low, body_low}
use Rattle.aria_record.specs.Spelled.{body_bytes}
use Rattle.aria_record.proofs.Lengths.{behind, has_place, length_fits}
use Rattle.aria_record.proofs.Writers.{with_kind, adds}
use Rattle.aria_record.proofs.entry_codec.push_last_entry.Goals as goal

pub set_length-requires-clause-place : goal.set_length-requires-clause-place
set_length-requires-clause-place c = has_place (behind (with_kind c.args.out.now (last_record c.args.table.now c.args.prev c.args.last.now)) (body_bytes (last_record c.args.table.now c.args.prev c.args.last.now)) (rw (c.last_kind.ensures c.args.table.now c.args.prev) at c.in_ok-at.ensures.place) (rw (c.last_kind.ensures c.args.table.now c.args.prev) at c.in_ok-at.ensures.begun) c.in_ok-push_last_body.ensures)

pub set_length-requires-clause-fits : goal.set_length-requires-clause-fits
set_length-requires-clause-fits c = length_fits (behind (with_kind c.args.out.now (last_record c.args.table.now c.args.prev c.args.last.now)) (body_bytes (last_record c.args.table.now c.args.prev c.args.last.now)) (rw (c.last_kind.ensures c.args.table.now c.args.prev) at c.in_ok-at.ensures.place) (rw (c.last_kind.ensures c.args.table.now c.args.prev) at c.in_ok-at.ensures.begun) c.in_ok-push_last_body.ensures) (body_low (last_record c.args.table.now c.args.prev c.args.last.now) (last_most c.args.table.now c.args.prev c.args.last.now c.as_slice-word.ensures.word) (last_low c.args.last.now c.requires.last))

pub returns : goal.returns
returns c = adds c.args.out.now (last_record c.args.table.now c.args.prev c.args.last.now) (behind (with_kind c.args.out.now (last_record c.args.table.now c.args.prev c.args.last.now)) (body_bytes (last_record c.args.table.now c.args.prev c.args.last.now)) (rw (c.last_kind.ensures c.args.table.now c.args.prev) at c.in_ok-at.ensures.place) (rw (c.last_kind.ensures c.args.table.now c.args.prev) at c.in_ok-at.ensures.begun) c.in_ok-push_last_body.ensures) c.set_length.ensures (last_fits c.args.table.now c.args.prev c.args.last.now c.as_slice-word.ensures.word c.requires.prev c.requires.last) (last_most c.args.table.now c.args.prev c.args.last.now c.as_slice-word.ensures.word) (last_low c.args.last.now c.requires.last)
