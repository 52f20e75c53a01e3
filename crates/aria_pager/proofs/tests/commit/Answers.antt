use Rattle.std.proofs.Common.{refl, ◌∙◌, ap}
use Rattle.aria_pager.specs.declared.page_store.PageStore.{PageStore}
use Rattle.aria_pager.proofs.Usable.{rests_standing}
use Rattle.aria_pager.proofs.tests.commit.Goals as goal

pub returns : goal.returns
returns c =
    let on = c.requires.stands in
    let turned = c.commit.ensures.moves refl on.0 on.1 on.2 on.3 on.4 in
    rests_standing _ _ on.0 on.1 _ turned.forced' turned.standing c.commit.ensures.tidy (ap (λ (v : PageStore). v.in_group) c.commit.ensures.rest ∙ c.requires.idle)
