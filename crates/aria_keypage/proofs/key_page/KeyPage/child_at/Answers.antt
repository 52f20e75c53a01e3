use Rattle.std.proofs.Common.{◌∙◌, ◌<◌, ◌^◌, ap, sym, subst, arith}
use Rattle.aria_keypage.specs.declared.kind.Kind.{Kind}
use Rattle.aria_keypage.specs.Content.{Content, width}
use Rattle.aria_keypage.specs.Child.{child_at}
use Rattle.aria_keypage.proofs.Child.{child-more}
use Rattle.aria_keypage.proofs.key_page.KeyPage.child_at.Goals as goal

pub returns-then-at-eq0 : goal.returns-then-at-eq0
returns-then-at-eq0 c = ap (λ (e : Content). e.first) c.self.view_is ∙ sym (ap (child_at c.args.self.now) c.if-at-eq0.true)

pub overflow_cast-result : goal.overflow_cast-result
overflow_cast-result c =
    let fits : c.target_at.result < 256 ^ 4 = subst (λ (k : Kind). c.target_at.result < 256 ^ width k) c.requires.kind c.target_at.ensures.fits in
    omega (arith, fits)

pub returns : goal.returns
returns c = c.target_at.ensures.target ∙ child-more c.args.self.now c.args.at (λ e. c.if-at-eq0.false e)
