use Rattle.std.proofs.Common.{arith}
use Rattle.aria_log.specs.Pieces.{log_files}
use Rattle.aria_log.proofs.Damages.{none_behind, none_begins}
use Rattle.aria_log.proofs.find.begins_behind.Goals as goal

pub returns-clause-begins : goal.returns-clause-begins
returns-clause-begins g c = λ told.
    let files = log_files (g.H.Host.state c.args.host.now).folder in (
      λ never. absurd (cc),
      λ behind. absurd (none_begins files c.args.from c.loop-number.number (c.loop-number.invariant.quiet told)
          (λ n over. none_behind files c.args.last n (c.requires.none told) (omega (arith, over, c.loop-number-test.false, c.end_of-number-end.ensures))) behind),
    )
