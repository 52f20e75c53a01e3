use Rattle.std.proofs.Common.{◌≡◌, ◌∙◌, subst, sym, IfOk, ap, length}
use Rattle.aria_page.specs.Page.{page_body}
use Rattle.aria_keypage.specs.Content.{Content}
use Rattle.aria_keypage.proofs.Read.{spells-one}
use Rattle.aria_key.specs.Held.{IsOffer}
use Rattle.aria_key.proofs.offer.offer_in.Goals as goal

pub returns-in-Some-clause-offer : goal.returns-in-Some-clause-offer
returns-in-Some-clause-offer c = λ d spells.
    let same : c.in-Some.view ≡ d = spells-one (page_body c.args.page.now) c.in-Some.view d c.in-Some.ensures.found spells in
    subst (λ (k : Content). IfOk c.offer_of.result (λ r. IsOffer c.args.kind k c.args.at (record { entry = c.args.entry.now; to = c.args.to }) r)) same c.offer_of.ensures.offer

pub returns-in-Some-clause-some : goal.returns-in-Some-clause-some
returns-in-Some-clause-some c = c.offer_of.ensures.some (page_body c.args.page.now) (ap length (sym c.body-body.ensures.value) ∙ c.body-body.ensures.len) c.in-Some.ensures.found

pub returns-in-None-clause-offer : goal.returns-in-None-clause-offer
returns-in-None-clause-offer c = λ d spells kind within. c.in-None.ensures.none d spells
