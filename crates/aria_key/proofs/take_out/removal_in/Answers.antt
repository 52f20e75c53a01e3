use Rattle.std.proofs.Common.{◌≡◌, subst, IfOk}
use Rattle.aria_page.specs.Page.{page_body}
use Rattle.aria_keypage.specs.Content.{Content}
use Rattle.aria_keypage.proofs.Read.{spells-one}
use Rattle.aria_key.specs.Merging.{IsRemoval}
use Rattle.aria_key.proofs.take_out.removal_in.Goals as goal

pub returns-in-Some-clause-removal : goal.returns-in-Some-clause-removal
returns-in-Some-clause-removal c = λ d spells.
    let same : c.in-Some.view ≡ d = spells-one (page_body c.args.page.now) c.in-Some.view d c.in-Some.ensures.found spells in
    subst (λ (k : Content). IfOk c.removal_of.result (λ r. IsRemoval c.args.kind c.args.at k r)) same c.removal_of.ensures.removal

pub returns-in-None-clause-removal : goal.returns-in-None-clause-removal
returns-in-None-clause-removal c = λ d spells kind within. c.in-None.ensures.none d spells
