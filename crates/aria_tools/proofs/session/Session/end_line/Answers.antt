use Rattle.std.proofs.Common.{◌≡◌, ℕ, List, [], ◌∷◌, ◌++◌, length, sym, ap, subst, ◌∙◌, eqb-true}
use Rattle.std.proofs.lemmas.Result.{on_ok_weaker, on_err_weaker}
use Rattle.aria_engine.specs.Done.{Does, DoesPart}
use Rattle.aria_tools.specs.Held.{clipped}
use Rattle.aria_tools.proofs.Feeding.{held_none}
use Rattle.aria_tools.proofs.session.Session.end_line.Goals as goal

pub returns-then-is_empty-clause-done : goal.returns-then-is_empty-clause-done
returns-then-is_empty-clause-done g c = on_ok_weaker c.answer.result (λ does rest held.
    let empty : length (clipped rest) ≡ 0 = ap length (sym held ∙ sym c.as_slice.ensures.value) ∙ eqb-true (length c.as_slice.result.now) 0 (sym c.is_empty.ensures ∙ c.if-is_empty.true) in
    subst (λ (r : List ℕ). Does g.H.Host.tells ((r ++ c.args.bytes.now) ∷ []) c.args.self.now.store c.answer.new.self.store c.args.self.now.refused c.answer.new.self.refused (g.H.Host.state c.args.host.now) (g.H.Host.state c.answer.new.host))
    (sym (held_none rest empty)) does) c.answer.ensures.done

pub returns-then-is_empty-clause-part : goal.returns-then-is_empty-clause-part
returns-then-is_empty-clause-part g c = on_err_weaker c.answer.result (λ part rest held.
    let empty : length (clipped rest) ≡ 0 = ap length (sym held ∙ sym c.as_slice.ensures.value) ∙ eqb-true (length c.as_slice.result.now) 0 (sym c.is_empty.ensures ∙ c.if-is_empty.true) in
    subst (λ (r : List ℕ). DoesPart g.H.Host.tells ((r ++ c.args.bytes.now) ∷ []) c.args.self.now.store c.answer.new.self.store (g.H.Host.state c.args.host.now) (g.H.Host.state c.answer.new.host))
    (sym (held_none rest empty)) part) c.answer.ensures.part
