use Rattle.std.proofs.Common.{◌≡◌, subst, IfOk}
use Rattle.aria_page.specs.Page.{page_body}
use Rattle.aria_keypage.specs.Content.{Content}
use Rattle.aria_keypage.proofs.Read.{spells-one}
use Rattle.aria_key.specs.Held.{IsHalved}
use Rattle.aria_key.proofs.halves.halves_in.Goals as goal

pub returns-in-Some-clause-halved : goal.returns-in-Some-clause-halved
returns-in-Some-clause-halved c = λ d spells.
    let same : c.in-Some.view ≡ d = spells-one (page_body c.args.page.now) c.in-Some.view d c.in-Some.ensures.found spells in
    subst (λ (k : Content). IfOk c.halves_of.result (λ r. IsHalved k r)) same c.halves_of.ensures.halved

pub returns-in-None-clause-halved : goal.returns-in-None-clause-halved
returns-in-None-clause-halved c = λ d spells. absurd (c.in-None.ensures.none d spells)
