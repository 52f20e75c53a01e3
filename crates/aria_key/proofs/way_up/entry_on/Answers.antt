use Rattle.std.proofs.Common.{◌≡◌, ◌∙◌, Some, ap}
use Rattle.aria_page.specs.Page.{page_body}
use Rattle.aria_keypage.specs.Content.{Content}
use Rattle.aria_keypage.proofs.Read.{spells-one}
use Rattle.aria_key.specs.Cursor.{entry_in}
use Rattle.aria_key.proofs.way_up.entry_on.Goals as goal

pub returns-in_ok-entry-in-Some : goal.returns-in_ok-entry-in-Some
returns-in_ok-entry-in-Some c = λ d spells.
    let same : c.in-Some.view ≡ d = spells-one (page_body c.args.page.now) c.in-Some.view d c.in-Some.ensures.found spells in
    ap Some c.in_ok-entry-in-Some.ensures ∙ ap (λ (k : Content). Some (entry_in k.items c.args.at)) same

pub returns-in-None : goal.returns-in-None
returns-in-None c = λ d spells. absurd (c.in-None.ensures.none d spells)
