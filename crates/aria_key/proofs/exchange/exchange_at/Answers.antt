use Rattle.std.proofs.Common.{◌∙◌, Some, ap, refl, sym}
use Rattle.std.proofs.lemmas.Result.{err_from_is_err_and}
use Rattle.aria_page.specs.Page.{page_body}
use Rattle.aria_key.proofs.Holding.{held-spells}
use Rattle.aria_key.proofs.Reading.{page_cause, reads_one, cause_found}
use Rattle.aria_key.proofs.exchange.exchange_at.Goals as goal

pub returns-in_err-load-clause-cause : goal.returns-in_err-load-clause-cause
returns-in_err-load-clause-cause g c =
    let p = err_from_is_err_and c.from_residual.result c.from_residual.ensures.1 in
    rw (p.1, p.2) (page_cause g.P.Pages.tells g.P.Pages.logged _ _ c.args.page (g.P.Pages.state c.args.pages.now) (g.P.Pages.state c.load.new.self) _ c.in_err-load.ensures.cause)

pub returns-in-Ok-Room-clause-exchanged : goal.returns-in-Ok-Room-clause-exchanged
returns-in-Ok-Room-clause-exchanged g c = λ t content held kind within.
    let there = c.in_ok-load.ensures.loaded t ∙ ap Some (sym c.loaded.ensures.body) in
    rw c.in-Ok-Room.field-0-is at (c.in-Ok-Room.ensures.space content (held-spells _ c.args.page content (page_body c.loaded.result.now) held there))

pub returns-in-Ok-Full-clause-exchanged : goal.returns-in-Ok-Full-clause-exchanged
returns-in-Ok-Full-clause-exchanged g c = λ t content held kind within.
    let there = c.in_ok-load.ensures.loaded t ∙ ap Some (sym c.loaded.ensures.body) in
    rw c.in-Ok-Full.field-0-is at (c.in-Ok-Full.ensures.space content (held-spells _ c.args.page content (page_body c.loaded.result.now) held there))

pub returns-in-Ok-Other-clause-cause : goal.returns-in-Ok-Other-clause-cause
returns-in-Ok-Other-clause-cause g c =
    cause_found g.P.Pages.tells 1 _ (g.P.Pages.state c.args.pages.now) (g.P.Pages.state c.load.new.self) (g.P.Pages.state c.stop-in-Ok-Other.new.self) _ c.stop-in-Ok-Other.result
    (reads_one g.P.Pages.tells 1 _ _ _ c.in_ok-load.ensures.loads c.in_ok-load.ensures.answers c.in_ok-load.ensures.cause) c.stop-in-Ok-Other.ensures.fault c.stop-in-Ok-Other.ensures.stops (
      c.file-file.ensures,
      refl,
      λ t low content held asked.
          let there = c.in_ok-load.ensures.loaded t ∙ ap Some (sym c.loaded.ensures.body) in
          (rw c.in-Ok-Other.field-0-is at (c.in-Ok-Other.ensures.space content (held-spells _ c.args.page content (page_body c.loaded.result.now) held there))) asked.0 asked.1,
    )
