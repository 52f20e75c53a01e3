use Rattle.std.proofs.Common.{◌≡◌, subst, IfOk}
use Rattle.aria_page.specs.Page.{page_body}
use Rattle.aria_keypage.specs.Content.{Content}
use Rattle.aria_keypage.proofs.Read.{spells-one}
use Rattle.aria_key.specs.Merging.{IsMergerOf}
use Rattle.aria_key.proofs.merging.merger_in.Goals as goal

pub returns-in-Some-view-clause-merger : goal.returns-in-Some-view-clause-merger
returns-in-Some-view-clause-merger c = λ left right spells other.
    let first : c.in-Some.page ≡ left = spells-one (page_body c.args.left.now) c.in-Some.page left c.in-Some.ensures.found spells in
    let second : c.in-Some-view.other ≡ right = spells-one (page_body c.args.right.now) c.in-Some-view.other right c.in-Some-view.ensures.found other in
    subst (λ (k : Content). IfOk c.merger_of.result (λ r. IsMergerOf k right c.args.between.now r)) first
    (subst (λ (k : Content). IfOk c.merger_of.result (λ r. IsMergerOf c.in-Some.page k c.args.between.now r)) second c.merger_of.ensures.merger)

pub returns-in-None-view-clause-merger : goal.returns-in-None-view-clause-merger
returns-in-None-view-clause-merger c = λ left right spells other kind thin. c.in-None-view.ensures.none right other

pub returns-in-None-clause-merger : goal.returns-in-None-clause-merger
returns-in-None-clause-merger c = λ left right spells other kind thin. c.in-None.ensures.none left spells
