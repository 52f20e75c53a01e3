use Rattle.std.proofs.Common.{List, ℕ, false, [], ◌∷◌, ◌++◌, ◌∙◌, Bool, refl, sym, subst}
use Rattle.aria_engine.specs.Done.{Does, DoesPart}
use Rattle.aria_engine.proofs.Doing.{does_none}
use Rattle.aria_tools.proofs.Holding.{on_err}
use Rattle.aria_tools.proofs.Ready.{ready_now}
use Rattle.aria_tools.proofs.Doing.{does_clipped, does_since, does_part_clipped}
use Rattle.aria_tools.proofs.session.Session.answer_held.Goals as goal

pub returns-in_err-hold-clause-part : goal.returns-in_err-hold-clause-part
returns-in_err-hold-clause-part g c = on_err c.from_residual.result (λ rest held.
    does_none g.H.Host.tells ((rest ++ c.args.bytes.now) ∷ []) c.args.self.now.store c.args.self.now.store (g.H.Host.state c.args.host.now) refl
    (ready_now g.H.Host.tells c.args.self.now.store (g.H.Host.state c.args.host.now) c.requires.ready (λ f t told since. g.met.H.Host.only_now c.args.host.now f t told since)))

pub returns-in_err-outcome-clause-part : goal.returns-in_err-outcome-clause-part
returns-in_err-outcome-clause-part g c = on_err c.from_residual-in_err-outcome.result (λ rest held.
    does_part_clipped g.H.Host.tells (rest ++ c.args.bytes.now) c.args.self.now.store c.execute.new.self (g.H.Host.state c.args.host.now) (g.H.Host.state c.execute.new.host)
    (subst (λ (line : List ℕ). DoesPart g.H.Host.tells (line ∷ []) c.args.self.now.store c.execute.new.self (g.H.Host.state c.args.host.now) (g.H.Host.state c.execute.new.host))
    (c.as_slice.ensures.value ∙ c.in_ok-hold.ensures rest held) (c.in_err-outcome.ensures.part c.requires.ready.sound)))

pub returns-clause-done : goal.returns-clause-done
returns-clause-done g c = λ rest held.
    does_since g.H.Host.tells _ c.args.self.now.store c.execute.new.self c.args.self.now.refused c.is_refused.result (g.H.Host.state c.args.host.now) (g.H.Host.state c.execute.new.host)
    (does_clipped g.H.Host.tells (rest ++ c.args.bytes.now) c.args.self.now.store c.execute.new.self false c.is_refused.result (g.H.Host.state c.args.host.now) (g.H.Host.state c.execute.new.host)
    (subst (λ (line : List ℕ). Does g.H.Host.tells (line ∷ []) c.args.self.now.store c.execute.new.self false c.is_refused.result (g.H.Host.state c.args.host.now) (g.H.Host.state c.execute.new.host))
    (c.as_slice.ensures.value ∙ c.in_ok-hold.ensures rest held)
    (subst (λ (b : Bool). Does g.H.Host.tells (c.as_slice.result.now ∷ []) c.args.self.now.store c.execute.new.self false b (g.H.Host.state c.args.host.now) (g.H.Host.state c.execute.new.host))
    (sym c.is_refused.ensures) c.in_ok-outcome.ensures.done)))
