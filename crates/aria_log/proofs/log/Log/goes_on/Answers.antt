use Rattle.std.proofs.Common.{◌/◌, arith}
use Rattle.aria_log.specs.Pieces.{log_files}
use Rattle.aria_log.specs.Stepping.{shown}
use Rattle.aria_log.proofs.RunReads.{left_end, ends_nothing, left_part, left_next, goes_on_is}
use Rattle.aria_log.proofs.log.Log.goes_on.Goals.{then-read-place-via-then-read-place, then-read-place-via-else-read-place+then-read-ne0}
use Rattle.aria_log.proofs.log.Log.goes_on.Goals as goal

pub returns-then-read-place-clause-goes : goal.returns-then-read-place-clause-goes
returns-then-read-place-clause-goes g c = λ told rest is.
    let files = log_files (g.H.Host.state c.args.host.now).folder in
    elim c.then-read-place.branch [
      | then-read-place-via-then-read-place w ↦ ends_nothing rest (left_end c.args.self.now files c.args.read rest is (omega (arith, w.if-read-place.true, c.place.ensures, c.requires.read)))
      | then-read-place-via-else-read-place+then-read-ne0 w ↦ left_part c.args.self.now files c.args.read rest is w.if-read-ne0.true
    ]

pub load-requires-clause-valid : goal.load-requires-clause-valid
load-requires-clause-valid g c = λ told.
    let (rest, is) = c.requires.left told in
    let next = left_next c.args.self.now (log_files (g.H.Host.state c.args.host.now).folder) c.args.read rest is (omega arith) (omega arith) in
    (next.piece, next.seen_is)

pub returns-clause-goes : goal.returns-clause-goes
returns-clause-goes g c = λ told rest is.
    let files = log_files (g.H.Host.state c.args.host.now).folder in
    goes_on_is c.args.self.now files c.args.read rest (shown c.args.self.now c.load.new.reader (c.args.read / 8176)) c.begins.result
    (left_next c.args.self.now files c.args.read rest is (omega arith) (omega arith)) (c.in_ok-load.ensures.loaded told) c.begins.ensures
