use Rattle.std.proofs.Common.{lit≤}
use Rattle.aria_record.specs.declared.record.Record.TheVariants.{DropTable}
use Rattle.aria_record.proofs.Sizes.{drop_most, body_low}
use Rattle.aria_record.specs.Spelled.{body_bytes}
use Rattle.aria_record.proofs.Lengths.{behind, has_place, length_fits}
use Rattle.aria_record.proofs.Writers.{with_kind, adds}
use Rattle.aria_record.proofs.entry_codec.push_drop_entry.Goals as goal

pub set_length-requires-clause-place : goal.set_length-requires-clause-place
set_length-requires-clause-place c = has_place (behind (with_kind c.args.out.now (DropTable c.args.table.now)) (body_bytes (DropTable c.args.table.now)) c.in_ok-at.ensures.place c.in_ok-at.ensures.begun c.in_ok-push_name.ensures.spelled)

pub set_length-requires-clause-fits : goal.set_length-requires-clause-fits
set_length-requires-clause-fits c = length_fits (behind (with_kind c.args.out.now (DropTable c.args.table.now)) (body_bytes (DropTable c.args.table.now)) c.in_ok-at.ensures.place c.in_ok-at.ensures.begun c.in_ok-push_name.ensures.spelled) (body_low (DropTable c.args.table.now) (drop_most c.args.table.now c.as_slice-word.ensures.word) (lit≤ tt))

pub returns : goal.returns
returns c = adds c.args.out.now (DropTable c.args.table.now) (behind (with_kind c.args.out.now (DropTable c.args.table.now)) (body_bytes (DropTable c.args.table.now)) c.in_ok-at.ensures.place c.in_ok-at.ensures.begun c.in_ok-push_name.ensures.spelled) c.set_length.ensures c.as_slice-word.ensures.word (drop_most c.args.table.now c.as_slice-word.ensures.word) (lit≤ tt)
