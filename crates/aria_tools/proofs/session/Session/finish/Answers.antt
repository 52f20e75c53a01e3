use Rattle.std.proofs.Common.{◌≡◌, ℕ, List, length, sym, ap, subst, ◌∙◌, eqb-true}
use Rattle.aria_tools.specs.Held.{clipped}
use Rattle.aria_engine.specs.Done.{Does, DoesPart}
use Rattle.aria_engine.proofs.Doing.{does_nothing}
use Rattle.aria_tools.proofs.Holding.{on_err}
use Rattle.aria_tools.proofs.Ready.{ready_now}
use Rattle.aria_tools.proofs.Feeding.{clipped_none, clipped_some, not_none}
use Rattle.aria_tools.proofs.session.Session.finish.Goals as goal

pub returns-then-is_empty-clause-done : goal.returns-then-is_empty-clause-done
returns-then-is_empty-clause-done g c rest none held =
    let empty : length (clipped rest) ≡ 0 = ap length (sym held ∙ sym c.as_slice.ensures.value) ∙ eqb-true (length c.as_slice.result.now) 0 (sym c.is_empty.ensures ∙ c.if-is_empty.true) in
    subst (λ (ls : List (List ℕ)). Does g.H.Host.tells ls c.args.self.now.store c.args.self.now.store c.args.self.now.refused c.args.self.now.refused (g.H.Host.state c.args.host.now) (g.H.Host.state c.args.host.now))
    (sym (clipped_none rest empty)) (does_nothing g.H.Host.tells c.args.self.now.store c.args.self.now.refused (g.H.Host.state c.args.host.now)
    (ready_now g.H.Host.tells c.args.self.now.store (g.H.Host.state c.args.host.now) c.requires.ready (λ f t told since. g.met.H.Host.only_now c.args.host.now f t told since)))

pub returns-in_err-end_line-clause-part : goal.returns-in_err-end_line-clause-part
returns-in_err-end_line-clause-part g c = on_err c.from_residual.result (λ rest none held.
    let some : length (clipped rest) ≡ 0 → ⊥ = λ h. not_none (length c.as_slice.result.now) c.is_empty.result c.is_empty.ensures c.if-is_empty.false (ap length (c.as_slice.ensures.value ∙ held) ∙ h) in
    subst (λ (ls : List (List ℕ)). DoesPart g.H.Host.tells ls c.args.self.now.store c.end_line.new.self.store (g.H.Host.state c.args.host.now) (g.H.Host.state c.end_line.new.host))
    (sym (clipped_some rest none some)) (c.in_err-end_line.ensures.part rest held))

pub returns-clause-done : goal.returns-clause-done
returns-clause-done g c rest none held =
    let some : length (clipped rest) ≡ 0 → ⊥ = λ h. not_none (length c.as_slice.result.now) c.is_empty.result c.is_empty.ensures c.if-is_empty.false (ap length (c.as_slice.ensures.value ∙ held) ∙ h) in
    subst (λ (ls : List (List ℕ)). Does g.H.Host.tells ls c.args.self.now.store c.end_line.new.self.store c.args.self.now.refused c.end_line.new.self.refused (g.H.Host.state c.args.host.now) (g.H.Host.state c.end_line.new.host))
    (sym (clipped_some rest none some)) (c.in_ok-end_line.ensures.done rest held)
