use Rattle.std.proofs.lemmas.Result.{err_from_is_err_and}
use Rattle.aria_page.specs.Page.{page_body}
use Rattle.aria_cache.specs.PageState.{PageState}
use Rattle.aria_key.specs.Merging.{IsBeside, AreMergeable}
use Rattle.aria_key.specs.Reading.{keys_file, OfKeyPage, OfTree}
use Rattle.aria_key.specs.WayUp.{IsPresent}
use Rattle.aria_key.proofs.Later.{Went, went, cause_later, page_later}
use Rattle.aria_key.proofs.Merged.{beside-then}
use Rattle.aria_key.proofs.merging.merger_at.Goals as goal

pub returns-in_err-found-clause-cause : goal.returns-in_err-found-clause-cause
returns-in_err-found-clause-cause g c =
    let tells = g.P.Pages.tells in
    let logged = g.P.Pages.logged in
    let slot = c.args.slot in
    let old : PageState = g.P.Pages.state c.args.pages.now in
    let mid : PageState = g.P.Pages.state c.copy_of.new.pages in
    let new : PageState = g.P.Pages.state c.merger_beside.new.pages in
    let file = keys_file old slot in
    let body = page_body c.in_ok-other.other in
    let whole = AreMergeable old file c.args.left c.args.right c.args.between.now in
    let e = c.in_ok-other.ensures in
    let first : Went tells slot old mid = went tells slot (OfTree tells logged (IsPresent old file c.args.right) file old mid) old mid e.loads.slots e.answers e.cause e.loads.late in
    let p = err_from_is_err_and c.from_residual-in_err-found.result c.from_residual-in_err-found.ensures.1 in
    rw (p.1, p.2) (cause_later tells slot (OfKeyPage tells logged (IsBeside body) (keys_file mid slot) c.args.left mid new) (OfTree tells logged whole file old new) old mid new _ first
    (page_later tells logged slot c.args.left (IsBeside body) whole old mid new first (λ t asked. beside-then old mid file (keys_file mid slot) c.args.left c.args.right c.args.between.now body first.file (e.loads.bodies t) e.loads.counts (e.copy t) asked)) c.in_err-found.ensures.cause)
