use Rattle.std.proofs.Common.{◌≡◌, ℕ, List, Some, ap, subst}
use Rattle.std.specs.Prelude.{IfOk}
use Rattle.aria_host.specs.declared.file_name.FileName.{FileName}
use Rattle.aria_host.specs.declared.file_name.FileName.TheVariants.{Rows}
use Rattle.aria_page.specs.Page.{page_body, zero_page}
use Rattle.aria_cache.specs.PageState.{PageState}
use Rattle.aria_block.specs.Causes.{rows_file}
use Rattle.aria_block.proofs.Promising.{promise_on_ok}
use Rattle.aria_block.proofs.inserting.page_for.Goals as goal

pub returns-then-count-eq0-clause-promise : goal.returns-then-count-eq0-clause-promise
returns-then-count-eq0-clause-promise g c = λ told pieces holds.
    let old : PageState = g.P.Pages.state c.args.pages.now in
    let new : PageState = g.P.Pages.state c.add_page.new.pages in
    promise_on_ok c.add_page.result c.args.kind c.args.len (new.bodies (rows_file old c.args.slot)) (c.add_page.ensures.free told)

pub returns-clause-promise : goal.returns-clause-promise
returns-clause-promise g c = λ told pieces holds.
    let old : PageState = g.P.Pages.state c.args.pages.now in
    let mid : PageState = g.P.Pages.state c.find_page.new.pages in
    let new : PageState = g.P.Pages.state c.add_page-2.new.pages in
    let same : rows_file mid c.args.slot ≡ rows_file old c.args.slot = ap (λ (f : ℕ → List ℕ). Rows (f c.args.slot)) c.in_ok-page.ensures.looks.slots.name in
    promise_on_ok c.add_page-2.result c.args.kind c.args.len (new.bodies (rows_file old c.args.slot))
    (subst (λ (f : FileName). IfOk c.add_page-2.result (λ page. new.bodies f page ≡ Some (page_body zero_page))) same (c.add_page-2.ensures.free told))
