use Rattle.std.proofs.Common.{◌++◌}
use Rattle.std.specs.String.{string_bytes}
use Rattle.aria_readlog.proofs.Telling.{on_err}
use Rattle.aria_log.specs.Log.{place}
use Rattle.aria_readlog.specs.Choice.{all_lines}
use Rattle.aria_readlog.proofs.Listed.{part_none, part_told, steps_told}
use Rattle.aria_readlog.proofs.listing.Listing.step.Goals as goal

pub returns-in_err-step-clause-part : goal.returns-in_err-step-clause-part
returns-in_err-step-clause-part g c = λ told here before more stands at.
    on_err c.from_residual.result (part_none (string_bytes c.args.self.now.text ++ all_lines c.args.self.now.choice more) (g.H.Host.state c.args.host.now) (g.H.Host.state c.next.new.host)
    (λ f b left. g.met.H.Host.only_now c.args.host.now f b told left) (c.in_err-step.ensures.same told))

pub returns-in_err-after-clause-part : goal.returns-in_err-after-clause-part
returns-in_err-after-clause-part g c = λ told here before more stands at.
    on_err c.from_residual-in_err-after.result (part_none (string_bytes c.args.self.now.text ++ all_lines c.args.self.now.choice more) (g.H.Host.state c.args.host.now) (g.H.Host.state c.next.new.host)
    (λ f b left. g.met.H.Host.only_now c.args.host.now f b told left) (c.in_ok-step.ensures.same told))

pub returns-in_err-tell_many-clause-part : goal.returns-in_err-tell_many-clause-part
returns-in_err-tell_many-clause-part g c = λ told here before more stands at.
    on_err c.from_residual-in_err-tell_many.result
    (part_told (place c.args.log.now) more c.in_ok-after.after c.args.self.now c.take.new.self (g.H.Host.state c.args.host.now) (g.H.Host.state c.next.new.host) (g.H.Host.state c.tell_many.new.host)
    (λ f b left. g.met.H.Host.only_now c.args.host.now f b told left) (c.in_ok-step.ensures.same told)
    (c.in_ok-after.ensures.takes (place c.args.log.now) more (c.in_ok-step.ensures.step told here before more stands at))
    (c.in_err-tell_many.ensures.part told))

pub returns-clause-steps : goal.returns-clause-steps
returns-clause-steps g c = λ told here before more stands at.
    steps_told (place c.args.log.now) more c.in_ok-after.after c.args.self.now c.take.new.self c.tell_many.new.self
    (g.H.Host.state c.args.host.now) (g.H.Host.state c.next.new.host) (g.H.Host.state c.tell_many.new.host)
    (λ f b left. g.met.H.Host.only_now c.args.host.now f b told left) (c.in_ok-step.ensures.same told)
    (c.in_ok-after.ensures.takes (place c.args.log.now) more (c.in_ok-step.ensures.step told here before more stands at))
    (c.in_ok-tell_many.ensures.tells told)
