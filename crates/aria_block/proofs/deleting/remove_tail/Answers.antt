use Rattle.std.proofs.Common.{◌≡◌, ◌≢◌, ℕ, ◌+◌, ◌-◌, ◌<◌, ◌≤◌, ◌^◌, Bool, None, Some, Option, List, length, refl, sym, ap, ◌∙◌, arith, subst}
use Rattle.std.specs.Prelude.{IsTrue, OnOk, Result, Ok, Err}
use Rattle.std.proofs.lemmas.Result.{err_from_is_err_and}
use Rattle.aria_page.specs.declared.place.Place.{Place}
use Rattle.aria_page.specs.declared.place.Places.{Places}
use Rattle.aria_host.specs.declared.file_name.FileName.{FileName}
use Rattle.aria_cache.specs.PageState.{PageState, Counts}
use Rattle.aria_block.specs.declared.part_kind.PartKind.TheVariants as part
use Rattle.aria_block.specs.Causes.{rows_file}
use Rattle.aria_block.specs.Pieces.{Pieces, without_row}
use Rattle.aria_block.specs.DataFile.{HoldsData}
use Rattle.aria_block.specs.Deleting.{HasPart, HasPages, HasTailAt, HasRowAt, without_at, without_pages, without_tail}
use Rattle.aria_block.proofs.ReadPages.{cause_asked}
use Rattle.aria_block.proofs.deleting.remove_tail.Goals as goal

pub returns-in-Some-clause-holds : goal.returns-in-Some-clause-holds
returns-in-Some-clause-holds g c = λ told pieces holds has.
    let old : PageState = g.P.Pages.state c.args.pages.now in
    let new : PageState = g.P.Pages.state c.remove_at.new.pages in
    let file : FileName = rows_file old c.args.slot in
    subst (λ (tail : Option Place). OnOk c.remove_at.result (HoldsData (old.counts file) (new.bodies file) (without_tail tail pieces))) (sym c.in-Some.is)
    (c.remove_at.ensures.holds told pieces holds (subst (λ (tail : Option Place). HasTailAt tail pieces) c.in-Some.is has))

pub returns-in-Some-clause-cause : goal.returns-in-Some-clause-cause
returns-in-Some-clause-cause g c =
    let old : PageState = g.P.Pages.state c.args.pages.now in
    let new : PageState = g.P.Pages.state c.remove_at.new.pages in
    cause_asked g.P.Pages.tells g.P.Pages.logged (HasTailAt c.args.tail) (HasPart part.Tail c.in-Some.at) (rows_file old c.args.slot) old new _
    (λ pieces has. subst (λ (tail : Option Place). HasTailAt tail pieces) c.in-Some.is has) c.remove_at.ensures.cause
