use Rattle.aria_cache.specs.PageState.{PageState}
use Rattle.aria_key.specs.Taking.{HasSpare}
use Rattle.aria_key.specs.Inserting.{CanAdd}
use Rattle.aria_key.specs.Reading.{keys_file}
use Rattle.aria_key.proofs.Sparing.{more_cause}
use Rattle.aria_key.proofs.Adding.{add-spare}
use Rattle.aria_key.proofs.inserting.add.Goals as goal

pub returns-then-head-eq0-clause-cause : goal.returns-then-head-eq0-clause-cause
returns-then-head-eq0-clause-cause g c =
    let old : PageState = g.P.Pages.state c.args.pages.now in
    let new : PageState = g.P.Pages.state c.plant.new.pages in
    let file = keys_file old c.args.slot in
    more_cause g.P.Pages.tells g.P.Pages.logged (HasSpare old file c.args.head.free) (CanAdd old file c.args.key c.args.head.root c.args.head.free c.args.entry.now) file old new _
    (λ t a. add-spare old file c.args.key c.args.head.root c.args.head.free c.args.entry.now a) c.plant.ensures.cause
