use Rattle.std.proofs.Common.{◌∙◌, Some, ap, refl, sym}
use Rattle.std.proofs.lemmas.Result.{err_from_is_err_and}
use Rattle.aria_page.specs.Page.{page_body}
use Rattle.aria_key.proofs.Holding.{held-spells}
use Rattle.aria_key.proofs.Reading.{page_cause, reads_one, cause_found}
use Rattle.aria_key.proofs.neighbours.neighbours.Goals as goal

pub returns-in_err-load-clause-cause : goal.returns-in_err-load-clause-cause
returns-in_err-load-clause-cause g c =
    let p = err_from_is_err_and c.from_residual.result c.from_residual.ensures.1 in
    rw (p.1, p.2) (page_cause g.P.Pages.tells g.P.Pages.logged _ _ c.args.page (g.P.Pages.state c.args.pages.now) (g.P.Pages.state c.load.new.self) _ c.in_err-load.ensures.cause)

pub returns-in-Ok-Some-clause-found : goal.returns-in-Ok-Some-clause-found
returns-in-Ok-Some-clause-found g c = λ t content held kind some within.
    let there = c.in_ok-load.ensures.loaded t ∙ ap Some (sym c.loaded.ensures.body) in
    rw c.in-Ok-Some.field-0-is at (c.in-Ok-Some.ensures content (held-spells _ c.args.page content (page_body c.loaded.result.now) held there))

pub returns-in-Ok-None-clause-cause : goal.returns-in-Ok-None-clause-cause
returns-in-Ok-None-clause-cause g c =
    cause_found g.P.Pages.tells 1 _ (g.P.Pages.state c.args.pages.now) (g.P.Pages.state c.load.new.self) (g.P.Pages.state c.stop-in-Ok-None.new.self) _ c.stop-in-Ok-None.result
    (reads_one g.P.Pages.tells 1 _ _ _ c.in_ok-load.ensures.loads c.in_ok-load.ensures.answers c.in_ok-load.ensures.cause) c.stop-in-Ok-None.ensures.fault c.stop-in-Ok-None.ensures.stops (
      c.file-file.ensures,
      refl,
      λ t low content held asked.
          let there = c.in_ok-load.ensures.loaded t ∙ ap Some (sym c.loaded.ensures.body) in
          (rw c.in-Ok-None.field-0-is at (c.in-Ok-None.ensures content (held-spells _ c.args.page content (page_body c.loaded.result.now) held there))) asked.0 asked.1 asked.2,
    )
