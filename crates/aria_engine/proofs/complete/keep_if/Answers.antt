use Rattle.aria_engine.specs.Turns.{with_line}
use Rattle.aria_engine.proofs.Completing.{kept_either, none_either}
use Rattle.aria_engine.proofs.complete.keep_if.Goals as goal

pub returns-then-kept-clause-moments : goal.returns-then-kept-clause-moments
returns-then-kept-clause-moments g c = λ told lines is.
    kept_either (g.H.Host.state c.args.host.now) (g.H.Host.state c.keep.new.host) lines c.args.line.now c.args.kept c.if-kept.true (c.keep.ensures.moments told lines is)

pub returns-clause-moments : goal.returns-clause-moments
returns-clause-moments g c = λ told lines is.
    none_either c.args.log.now (g.H.Host.state c.args.host.now) lines (with_line c.args.kept lines c.args.line.now) (λ f b left. g.met.H.Host.only_now c.args.host.now f b told left) is
