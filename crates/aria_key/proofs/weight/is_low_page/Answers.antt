use Rattle.std.proofs.Common.{◌∙◌, Some, ℕ, List, ap, refl, sym, subst}
use Rattle.std.proofs.lemmas.Option.{same_Some}
use Rattle.std.proofs.lemmas.Result.{err_from_is_err_and}
use Rattle.aria_page.specs.Page.{page_body}
use Rattle.aria_keypage.specs.Content.{Content, Spells}
use Rattle.aria_key.specs.Merging.{IsWeighed}
use Rattle.aria_key.proofs.Holding.{one-content}
use Rattle.aria_key.proofs.Reading.{page_cause, reads_one, cause_found}
use Rattle.aria_key.proofs.weight.is_low_page.Goals as goal

pub returns-in_err-load-clause-cause : goal.returns-in_err-load-clause-cause
returns-in_err-load-clause-cause g c =
    let p = err_from_is_err_and c.from_residual.result c.from_residual.ensures.1 in
    rw (p.1, p.2) (page_cause g.P.Pages.tells g.P.Pages.logged _ _ c.args.page (g.P.Pages.state c.args.pages.now) (g.P.Pages.state c.load.new.self) _ c.in_err-load.ensures.cause)

pub returns-in-Some-clause-low : goal.returns-in-Some-clause-low
returns-in-Some-clause-low g c = λ t content held.
    let there = c.in_ok-load.ensures.loaded t ∙ ap Some (sym c.loaded.ensures.body) in
    let same = one-content _ c.args.page content c.in-Some.view (page_body c.loaded.result.now) held there c.in-Some.ensures.found in
    subst (λ (d : Content). IsWeighed d c.is_thin.result) (sym same) c.is_thin.ensures

pub returns-in-None-clause-cause : goal.returns-in-None-clause-cause
returns-in-None-clause-cause g c =
    cause_found g.P.Pages.tells 1 _ (g.P.Pages.state c.args.pages.now) (g.P.Pages.state c.load.new.self) (g.P.Pages.state c.stop-in-None.new.self) _ c.stop-in-None.result
    (reads_one g.P.Pages.tells 1 _ _ _ c.in_ok-load.ensures.loads c.in_ok-load.ensures.answers c.in_ok-load.ensures.cause) c.stop-in-None.ensures.fault c.stop-in-None.ensures.stops (
      c.file-file.ensures,
      refl,
      λ t low content held asked.
          let there = c.in_ok-load.ensures.loaded t ∙ ap Some (sym c.loaded.ensures.body) in
          c.in-None.ensures.none content (subst (λ (b : List ℕ). Spells b content) (same_Some held.body (page_body c.loaded.result.now) (sym held.there ∙ there)) held.spells),
    )
