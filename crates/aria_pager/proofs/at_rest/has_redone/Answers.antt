use Rattle.std.proofs.Common.{◌∙◌, sym}
use Rattle.aria_page.specs.declared.place.Part.TheVariants.{Keys}
use Rattle.aria_pager.proofs.Rested.{both_redone}
use Rattle.aria_pager.proofs.at_rest.has_redone.Goals as goal

pub returns-then-not-branch-clause-redone : goal.returns-then-not-branch-clause-redone
returns-then-not-branch-clause-redone g c = λ told checkpoint groups has rises. (
  λ off. absurd (cc),
  λ redone. sym c.if-not-branch.true ∙ (c.in_ok-is_redone.ensures.redone told checkpoint groups has rises).1 (redone (sym (c.needs_slot.ensures checkpoint groups has) ∙ c.if-not-needs_slot.false) Keys),
)

pub returns-clause-redone : goal.returns-clause-redone
returns-clause-redone g c = λ told checkpoint groups has rises.
    both_redone c.is_redone-2.result (g.H.Host.state c.args.host.now).folder (g.H.Host.state c.is_redone.new.host).folder groups c.args.name.now (c.in_ok-is_redone.ensures.same told).folder
    (sym (c.needs_slot.ensures checkpoint groups has) ∙ c.if-not-needs_slot.false) ((c.in_ok-is_redone.ensures.redone told checkpoint groups has rises).0 c.if-not-branch.false)
    (c.is_redone-2.ensures.redone told checkpoint groups has rises)
