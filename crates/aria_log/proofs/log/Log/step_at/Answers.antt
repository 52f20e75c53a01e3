use Rattle.std.proofs.Common.{◌∙◌, refl, sym}
use Rattle.aria_log.specs.Pieces.{log_files}
use Rattle.aria_log.proofs.Looking.{left_at}
use Rattle.aria_log.proofs.Steps.{on_spot}
use Rattle.aria_log.proofs.log.Log.step_at.Goals as goal

pub returns-in-Some-clause-step : goal.returns-in-Some-clause-step
returns-in-Some-clause-step g c = λ told entries piece rest is.
    let files = log_files (g.H.Host.state c.args.host.now).folder in
    let text = c.bytes_of-page.ensures.shown piece (c.in_ok-load.ensures.loaded told ∙ is.piece_is) in
    let there = on_spot c.args.self.now files c.args.at _ entries piece rest c.bytes_of-page.result.now _ is text c.bytes_of-page.ensures.fits refl refl in
    let (behind, found, size) = rw c.in-Some.is at c.in_ok-group.ensures.decodes in
    c.group_step.ensures.step files entries rest _ behind there.left there.now_is there.entries_are found size

pub returns-in-Some-clause-group : goal.returns-in-Some-clause-group
returns-in-Some-clause-group g c = c.group_step.ensures.group (rw c.in-Some.is at c.in_ok-group.ensures.group)

pub returns-in_ok-run-in-None-clause-step : goal.returns-in_ok-run-in-None-clause-step
returns-in_ok-run-in-None-clause-step g c = λ told entries piece rest is.
    let old = g.H.Host.state c.args.host.now in
    let text = c.bytes_of-page.ensures.shown piece (c.in_ok-load.ensures.loaded told ∙ is.piece_is) in
    let there = on_spot c.args.self.now (log_files old.folder) c.args.at _ entries piece rest c.bytes_of-page.result.now c.in_ok-run-in-None.run' is text c.bytes_of-page.ensures.fits c.in_ok-run-in-None.ensures refl in
    c.step_across.ensures.step told entries rest (left_at c.args.self.now old (g.H.Host.state c.load.new.host) _ rest (sym (c.in_ok-load.ensures.same told).folder) there.left) there.entries_are
