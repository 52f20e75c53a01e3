use Rattle.std.proofs.Common.{◌≡◌, ◌≤◌, subst}
use Rattle.std.specs.Prelude.{IfOk}
use Rattle.aria_host.specs.declared.file_name.FileName.{FileName}
use Rattle.aria_cache.specs.PageState.{PageState, Counts}
use Rattle.aria_block.specs.Causes.{rows_file}
use Rattle.aria_block.proofs.Freeing.{run_free, past_on_ok}
use Rattle.aria_block.proofs.Stepping.{same_rows}
use Rattle.aria_block.proofs.lengthening.run_for.Goals as goal

pub returns-then-count-eq0-clause-free : goal.returns-then-count-eq0-clause-free
returns-then-count-eq0-clause-free g c = λ told pieces holds.
    let old : PageState = g.P.Pages.state c.args.pages.now in
    let file : FileName = rows_file old c.args.slot in
    past_on_ok c.add_run.result c.args.n (old.counts file) (old.bodies file) pieces holds (λ m low. g.met.P.Pages.past c.args.pages.now file m told c.requires.stands low) c.add_run.ensures.behind

pub returns-in-Some-clause-free : goal.returns-in-Some-clause-free
returns-in-Some-clause-free g c = λ told pieces holds.
    let old : PageState = g.P.Pages.state c.args.pages.now in
    let file : FileName = rows_file old c.args.slot in
    let range = rw c.in-Some.is at c.in_ok-page.ensures.range in
    run_free (old.counts file) (old.bodies file) pieces holds c.args.n c.in-Some.page range.1 (rw c.in-Some.is at (c.in_ok-page.ensures.found told))

pub returns-clause-free : goal.returns-clause-free
returns-clause-free g c = λ told pieces holds.
    let old : PageState = g.P.Pages.state c.args.pages.now in
    let mid : PageState = g.P.Pages.state c.find_run.new.pages in
    let file : FileName = rows_file old c.args.slot in
    let same : rows_file mid c.args.slot ≡ file = same_rows c.args.slot old mid c.in_ok-page.ensures.looks.slots in
    let behind : IfOk c.add_run-2.result (λ page. old.counts file ≤ page) =
    subst (λ (n : Counts). IfOk c.add_run-2.result (λ page. n file ≤ page)) c.in_ok-page.ensures.looks.counts
    (subst (λ (f : FileName). IfOk c.add_run-2.result (λ page. mid.counts f ≤ page)) same c.add_run-2.ensures.behind) in
    past_on_ok c.add_run-2.result c.args.n (old.counts file) (old.bodies file) pieces holds (λ m low. g.met.P.Pages.past c.args.pages.now file m told c.requires.stands low) behind
