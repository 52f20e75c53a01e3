use Rattle.std.proofs.Common.{Bool, false, [], ◌∷◌, sym, subst}
use Rattle.aria_engine.specs.Done.{Does}
use Rattle.aria_tools.proofs.Doing.{does_since}
use Rattle.aria_tools.proofs.session.Session.answer.Goals as goal

pub returns-clause-done : goal.returns-clause-done
returns-clause-done g c =
    does_since g.H.Host.tells (c.args.line.now ∷ []) c.args.self.now.store c.execute.new.self c.args.self.now.refused c.is_refused.result (g.H.Host.state c.args.host.now) (g.H.Host.state c.execute.new.host)
    (subst (λ (b : Bool). Does g.H.Host.tells (c.args.line.now ∷ []) c.args.self.now.store c.execute.new.self false b (g.H.Host.state c.args.host.now) (g.H.Host.state c.execute.new.host))
    (sym c.is_refused.ensures) c.in_ok-outcome.ensures.done)
