use Rattle.std.proofs.Common.{arith}
use Rattle.aria_log.specs.Pieces.{log_files}
use Rattle.aria_log.proofs.Steps.{stands_on, end_told}
use Rattle.aria_log.proofs.log.Log.next.Goals as goal

pub returns-then-at-place-clause-step : goal.returns-then-at-place-clause-step
returns-then-at-place-clause-step g c = λ told at before more is from.
    end_told c.args.self.now (log_files (g.H.Host.state c.args.host.now).folder) at before more c.bytes.ensures.len is (omega (arith, c.place_of_lsn-at.ensures.place at from, c.if-at-place.true, c.place.ensures))

pub step_at-requires-clause-stands : goal.step_at-requires-clause-stands
step_at-requires-clause-stands g c = λ told.
    let (at, before, more, is, from) = c.requires.stands told in
    let on = stands_on c.args.self.now (log_files (g.H.Host.state c.args.host.now).folder) at c.place_of_lsn-at.result before more c.bytes.ensures.len is (c.place_of_lsn-at.ensures.place at from) (omega arith) in
    (more, on.piece, on.rest, on.stands)

pub returns-clause-step : goal.returns-clause-step
returns-clause-step g c = λ told at before more is from.
    let on = stands_on c.args.self.now (log_files (g.H.Host.state c.args.host.now).folder) at c.place_of_lsn-at.result before more c.bytes.ensures.len is (c.place_of_lsn-at.ensures.place at from) (omega arith) in
    c.step_at.ensures.step told more on.piece on.rest on.stands
