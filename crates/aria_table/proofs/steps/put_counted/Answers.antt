use Rattle.std.proofs.Common.{◌≡◌, ℕ, ◌+◌, ◌<◌, Bool, None, Some, List, length, refl, sym, ap, ◌∙◌, arith, subst}
use Rattle.std.specs.Prelude.{OnOk}
use Rattle.std.proofs.lemmas.Result.{err_from_is_err_and}
use Rattle.aria_page.specs.declared.place.Places.{Places}
use Rattle.aria_cache.specs.PageState.{PageState}
use Rattle.aria_table.proofs.Placing.{put_steps}
use Rattle.aria_table.proofs.Causing.{cause_rows}
use Rattle.aria_table.proofs.steps.put_counted.Goals as goal

pub returns-in_err-places-clause-cause : goal.returns-in_err-places-clause-cause
returns-in_err-places-clause-cause g c =
    let old : PageState = g.P.Pages.state c.args.pages.now in
    let new : PageState = g.P.Pages.state c.insert_row.new.pages in
    let p = err_from_is_err_and c.from_residual.result c.from_residual.ensures.1 in
    rw (p.1, p.2) (cause_rows g.P.Pages.tells g.P.Pages.logged c.args.slot 0 old new _ c.in_err-places.ensures.cause)

pub returns-clause-content : goal.returns-clause-content
returns-clause-content g c = λ told is_row keys content held good low.
    let old : PageState = g.P.Pages.state c.args.pages.now in
    let mid : PageState = g.P.Pages.state c.insert_row.new.pages in
    let new : PageState = g.P.Pages.state c.add_one.new.pages in
    put_steps is_row keys c.args.slot g.P.Pages.tells g.P.Pages.logged old mid new c.in_ok-places.places c.args.row.now content held good low
    c.in_ok-places.ensures.slots (c.in_ok-places.ensures.inside told) c.in_ok-places.ensures.keeps (c.in_ok-places.ensures.rows told is_row content.pieces content.kept held.data_file good)
    c.in_ok-add_one.ensures.slots (c.in_ok-add_one.ensures.inside told) (c.in_ok-add_one.ensures.adds told) c.in_ok-add_one.ensures.counts
