use Rattle.std.proofs.Common.{arith}
use Rattle.aria_record.specs.declared.record.Record.TheVariants.{CreateTable}
use Rattle.aria_record.proofs.Sizes.{create_most, body_low}
use Rattle.aria_record.specs.Spelled.{body_bytes}
use Rattle.aria_record.proofs.Lengths.{behind, has_place, length_fits}
use Rattle.aria_record.proofs.Writers.{with_kind, adds}
use Rattle.aria_record.proofs.entry_codec.push_create_entry.Goals as goal

pub set_length-requires-clause-place : goal.set_length-requires-clause-place
set_length-requires-clause-place c = has_place (behind (with_kind c.args.out.now (CreateTable c.args.table.now c.args.plain c.args.definition.now c.args.format)) (body_bytes (CreateTable c.args.table.now c.args.plain c.args.definition.now c.args.format)) c.in_ok-at.ensures.place c.in_ok-at.ensures.begun c.in_ok-push_create.ensures)

pub set_length-requires-clause-fits : goal.set_length-requires-clause-fits
set_length-requires-clause-fits c = length_fits (behind (with_kind c.args.out.now (CreateTable c.args.table.now c.args.plain c.args.definition.now c.args.format)) (body_bytes (CreateTable c.args.table.now c.args.plain c.args.definition.now c.args.format)) c.in_ok-at.ensures.place c.in_ok-at.ensures.begun c.in_ok-push_create.ensures) (body_low (CreateTable c.args.table.now c.args.plain c.args.definition.now c.args.format) (create_most c.args.table.now c.args.plain c.args.definition.now c.args.format c.as_slice-word.ensures.word) (omega (arith, c.requires.size)))

pub returns : goal.returns
returns c = adds c.args.out.now (CreateTable c.args.table.now c.args.plain c.args.definition.now c.args.format) (behind (with_kind c.args.out.now (CreateTable c.args.table.now c.args.plain c.args.definition.now c.args.format)) (body_bytes (CreateTable c.args.table.now c.args.plain c.args.definition.now c.args.format)) c.in_ok-at.ensures.place c.in_ok-at.ensures.begun c.in_ok-push_create.ensures) c.set_length.ensures (record { word = c.as_slice-word.ensures.word; known = c.requires.known; spelled = c.requires.spelled }) (create_most c.args.table.now c.args.plain c.args.definition.now c.args.format c.as_slice-word.ensures.word) (omega (arith, c.requires.size))
