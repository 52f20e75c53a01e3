use Rattle.aria_log.proofs.Logs.{idle_forced, idle_keeps}
use Rattle.aria_log.proofs.log.Log.force.Goals as goal

pub returns-then-self-eq0-clause-forced : goal.returns-then-self-eq0-clause-forced
returns-then-self-eq0-clause-forced g c = λ told base groups forced is. idle_forced c.args.self.now (g.H.Host.state c.args.host.now) base groups forced is c.if-self-eq0.true

pub returns-then-self-eq0-clause-moments : goal.returns-then-self-eq0-clause-moments
returns-then-self-eq0-clause-moments g c = λ told base groups forced is.
    idle_keeps c.args.self.now (g.H.Host.state c.args.host.now) base groups forced (λ f b left. g.met.H.Host.only_now c.args.host.now f b told left) is
