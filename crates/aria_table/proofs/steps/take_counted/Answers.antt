use Rattle.std.proofs.Common.{◌≡◌, ℕ, Bool, List, refl, sym, ap, ◌∙◌, subst}
use Rattle.std.proofs.lemmas.Result.{err_from_is_err_and}
use Rattle.aria_cache.specs.PageState.{PageState, Counts}
use Rattle.aria_block.specs.Causes.{rows_file}
use Rattle.aria_block.specs.HoldsRows.{TakesRow}
use Rattle.aria_table.proofs.Placing.{taken_ok}
use Rattle.aria_table.proofs.Causing.{cause_taken}
use Rattle.aria_table.proofs.steps.take_counted.Goals as goal

pub returns-in_err-delete_row-clause-cause : goal.returns-in_err-delete_row-clause-cause
returns-in_err-delete_row-clause-cause g c =
    let old : PageState = g.P.Pages.state c.args.pages.now in
    let new : PageState = g.P.Pages.state c.delete_row.new.pages in
    let p = err_from_is_err_and c.from_residual.result c.from_residual.ensures.1 in
    rw (p.1, p.2) (cause_taken g.P.Pages.tells g.P.Pages.logged c.args.slot 0 c.args.places.now old new _ c.in_err-delete_row.ensures.cause)

pub returns-clause-content : goal.returns-clause-content
returns-clause-content g c = λ told is_row keys content row held there fits low.
    let old : PageState = g.P.Pages.state c.args.pages.now in
    let mid : PageState = g.P.Pages.state c.delete_row.new.pages in
    let new : PageState = g.P.Pages.state c.take_one.new.pages in
    taken_ok c.take_one.result is_row keys c.args.slot g.P.Pages.tells g.P.Pages.logged old mid new c.args.places.now row content held low
    c.in_ok-delete_row.ensures.slots (c.in_ok-delete_row.ensures.inside told) c.in_ok-delete_row.ensures.keeps
    (subst (λ (k : Counts). TakesRow is_row c.args.places.now row (k (rows_file old c.args.slot)) (mid.bodies (rows_file old c.args.slot)) content.pieces content.kept) (sym c.in_ok-delete_row.ensures.counts) (c.in_ok-delete_row.ensures.rows told is_row content.pieces content.kept row held.data_file there fits))
    c.take_one.ensures.slots (c.take_one.ensures.inside told) (c.take_one.ensures.takes told) c.take_one.ensures.counts
