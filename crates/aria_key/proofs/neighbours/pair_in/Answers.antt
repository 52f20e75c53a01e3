use Rattle.std.proofs.Common.{◌≡◌, subst, IfOk}
use Rattle.aria_page.specs.Page.{page_body}
use Rattle.aria_keypage.specs.Content.{Content}
use Rattle.aria_keypage.proofs.Read.{spells-one}
use Rattle.aria_key.specs.Merging.{IsPairOf}
use Rattle.aria_key.proofs.neighbours.pair_in.Goals as goal

pub returns-in-Some : goal.returns-in-Some
returns-in-Some c = λ d spells.
    let same : c.in-Some.view ≡ d = spells-one (page_body c.args.page.now) c.in-Some.view d c.in-Some.ensures.found spells in
    subst (λ (k : Content). IfOk c.pair_of.result (λ r. IsPairOf c.args.at k r)) same c.pair_of.ensures

pub returns-in-None : goal.returns-in-None
returns-in-None c = λ d spells kind some within. c.in-None.ensures.none d spells
