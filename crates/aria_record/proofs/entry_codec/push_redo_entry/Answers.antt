use Rattle.std.proofs.Common.{arith}
use Rattle.aria_page.specs.Change.{edits_of}
use Rattle.aria_record.specs.declared.record.Record.TheVariants.{Redo}
use Rattle.aria_record.proofs.Lent.{lent_length, all_within}
use Rattle.aria_record.proofs.Sizes.{redo_most, redo_low, body_low}
use Rattle.aria_record.specs.Spelled.{body_bytes}
use Rattle.aria_record.proofs.Lengths.{behind, has_place, length_fits}
use Rattle.aria_record.proofs.Writers.{with_kind, adds}
use Rattle.aria_record.proofs.entry_codec.push_redo_entry.Goals as goal

pub set_length-requires-clause-place : goal.set_length-requires-clause-place
set_length-requires-clause-place c = has_place (behind (with_kind c.args.out.now (Redo c.args.kind c.args.table.now c.args.part c.args.page (edits_of c.args.edits.now))) (body_bytes (Redo c.args.kind c.args.table.now c.args.part c.args.page (edits_of c.args.edits.now))) c.in_ok-at.ensures.place c.in_ok-at.ensures.begun c.in_ok-push_redo_body.ensures)

pub set_length-requires-clause-fits : goal.set_length-requires-clause-fits
set_length-requires-clause-fits c = length_fits (behind (with_kind c.args.out.now (Redo c.args.kind c.args.table.now c.args.part c.args.page (edits_of c.args.edits.now))) (body_bytes (Redo c.args.kind c.args.table.now c.args.part c.args.page (edits_of c.args.edits.now))) c.in_ok-at.ensures.place c.in_ok-at.ensures.begun c.in_ok-push_redo_body.ensures) (body_low (Redo c.args.kind c.args.table.now c.args.part c.args.page (edits_of c.args.edits.now)) (redo_most c.args.kind c.args.table.now c.args.part c.args.page (edits_of c.args.edits.now) c.as_slice-word.ensures.word) (redo_low (edits_of c.args.edits.now) (all_within c.args.edits.now c.requires.within) (omega (arith, lent_length c.args.edits.now, c.requires.few))))

pub returns : goal.returns
returns c = adds c.args.out.now (Redo c.args.kind c.args.table.now c.args.part c.args.page (edits_of c.args.edits.now)) (behind (with_kind c.args.out.now (Redo c.args.kind c.args.table.now c.args.part c.args.page (edits_of c.args.edits.now))) (body_bytes (Redo c.args.kind c.args.table.now c.args.part c.args.page (edits_of c.args.edits.now))) c.in_ok-at.ensures.place c.in_ok-at.ensures.begun c.in_ok-push_redo_body.ensures) c.set_length.ensures (record { word = c.as_slice-word.ensures.word; low = c.requires.page; some = omega (arith, lent_length c.args.edits.now, c.requires.some); few = omega (arith, lent_length c.args.edits.now, c.requires.few); within = all_within c.args.edits.now c.requires.within }) (redo_most c.args.kind c.args.table.now c.args.part c.args.page (edits_of c.args.edits.now) c.as_slice-word.ensures.word) (redo_low (edits_of c.args.edits.now) (all_within c.args.edits.now c.requires.within) (omega (arith, lent_length c.args.edits.now, c.requires.few)))
