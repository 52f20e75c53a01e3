use Rattle.std.proofs.Common.{◌≡◌, ◌∙◌, Some, ap, refl, sym}
use Rattle.std.specs.Prelude.{⊤}
use Rattle.std.proofs.lemmas.Option.{same_Some}
use Rattle.std.proofs.lemmas.Result.{err_from_is_err_and}
use Rattle.aria_page.specs.Page.{page_body}
use Rattle.aria_cache.specs.Causes.{OfPage}
use Rattle.aria_key.specs.Reading.{keys_file, OfKeyPage}
use Rattle.aria_key.proofs.Holding.{held-spells}
use Rattle.aria_key.proofs.Reading.{page_cause, reads_one, cause_found}
use Rattle.aria_key.proofs.way_up.entry_at.Goals as goal

pub returns-in_err-load-clause-cause : goal.returns-in_err-load-clause-cause
returns-in_err-load-clause-cause g c =
    let p = err_from_is_err_and c.from_residual.result c.from_residual.ensures.1 in
    rw (p.1, p.2) (page_cause g.P.Pages.tells g.P.Pages.logged (λ d. ⊤) (keys_file (g.P.Pages.state c.args.pages.now) c.args.slot) c.args.page (g.P.Pages.state c.args.pages.now) (g.P.Pages.state c.load.new.self) _ c.in_err-load.ensures.cause)

pub returns-in-Ok-Some-clause-entry : goal.returns-in-Ok-Some-clause-entry
returns-in-Ok-Some-clause-entry g c = λ t content held.
    let there = c.in_ok-load.ensures.loaded t ∙ ap Some (sym c.loaded.ensures.body) in
    same_Some _ _ (sym c.in-Ok-Some.field-0-is ∙ c.in-Ok-Some.ensures content (held-spells _ c.args.page content (page_body c.loaded.result.now) held there))

pub returns-in-Ok-None-clause-cause : goal.returns-in-Ok-None-clause-cause
returns-in-Ok-None-clause-cause g c =
    let old = g.P.Pages.state c.args.pages.now in
    let now = g.P.Pages.state c.load.new.self in
    let new = g.P.Pages.state c.stop-in-Ok-None.new.self in
    cause_found g.P.Pages.tells 1 (OfKeyPage g.P.Pages.tells g.P.Pages.logged (λ d. ⊤) (keys_file old c.args.slot) c.args.page old new) old now new _ c.stop-in-Ok-None.result
    (reads_one g.P.Pages.tells 1 (OfPage g.P.Pages.tells g.P.Pages.logged (keys_file old c.args.slot) c.args.page old now) old now c.in_ok-load.ensures.loads c.in_ok-load.ensures.answers c.in_ok-load.ensures.cause) c.stop-in-Ok-None.ensures.fault c.stop-in-Ok-None.ensures.stops (
      c.file-file.ensures,
      refl,
      λ t low content held asked.
          let there : old.bodies (keys_file old c.args.slot) c.args.page ≡ Some (page_body c.loaded.result.now) = c.in_ok-load.ensures.loaded t ∙ ap Some (sym c.loaded.ensures.body) in
          let full = sym c.in-Ok-None.field-0-is ∙ c.in-Ok-None.ensures content (held-spells (old.bodies (keys_file old c.args.slot)) c.args.page content (page_body c.loaded.result.now) held there) in
          absurd cc,
    )
