use Rattle.std.proofs.Common.{sym, lit≤}
use Rattle.std.proofs.lemmas.List.{append-nil}
use Rattle.aria_record.specs.declared.record.Record.TheVariants.{Commit}
use Rattle.aria_record.proofs.Sizes.{commit_most, body_low}
use Rattle.aria_record.specs.Spelled.{body_bytes}
use Rattle.aria_record.proofs.Lengths.{behind, has_place, length_fits}
use Rattle.aria_record.proofs.Writers.{with_kind, adds}
use Rattle.aria_record.proofs.entry_codec.push_commit_entry.Goals as goal

pub set_length-requires-clause-place : goal.set_length-requires-clause-place
set_length-requires-clause-place c = has_place (behind (with_kind c.args.out.now Commit) (body_bytes Commit) c.in_ok-at.ensures.place c.in_ok-at.ensures.begun (sym (append-nil c.begin_entry.new.out)))

pub set_length-requires-clause-fits : goal.set_length-requires-clause-fits
set_length-requires-clause-fits c = length_fits (behind (with_kind c.args.out.now Commit) (body_bytes Commit) c.in_ok-at.ensures.place c.in_ok-at.ensures.begun (sym (append-nil c.begin_entry.new.out))) (body_low Commit commit_most (lit≤ tt))

pub returns : goal.returns
returns c = adds c.args.out.now Commit (behind (with_kind c.args.out.now Commit) (body_bytes Commit) c.in_ok-at.ensures.place c.in_ok-at.ensures.begun (sym (append-nil c.begin_entry.new.out))) c.set_length.ensures tt commit_most (lit≤ tt)
