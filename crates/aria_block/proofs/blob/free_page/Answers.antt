use Rattle.std.proofs.Common.{◌≡◌, ℕ, List, ap, subst}
use Rattle.std.specs.Prelude.{OnOk}
use Rattle.aria_host.specs.declared.file_name.FileName.{FileName}
use Rattle.aria_host.specs.declared.file_name.FileName.TheVariants.{Rows}
use Rattle.aria_cache.specs.PageState.{PageState}
use Rattle.aria_block.specs.Causes.{rows_file}
use Rattle.aria_block.specs.Puts.{SetsCode}
use Rattle.aria_block.proofs.Blobs.{free_on_ok}
use Rattle.aria_block.proofs.blob.free_page.Goals as goal

pub returns-clause-holds : goal.returns-clause-holds
returns-clause-holds g c = λ told pieces holds.
    let old : PageState = g.P.Pages.state c.args.pages.now in
    let mid : PageState = g.P.Pages.state c.write_free.new.pages in
    let new : PageState = g.P.Pages.state c.set_code.new.pages in
    let file : FileName = rows_file old c.args.slot in
    let same : rows_file mid c.args.slot ≡ file = ap (λ (f : ℕ → List ℕ). Rows (f c.args.slot)) c.in_ok-write_free.ensures.slots.name in
    let set = subst (λ (f : FileName). OnOk c.set_code.result (SetsCode f c.args.page mid new)) same (c.set_code.ensures.sets told) in
    free_on_ok c.set_code.result (old.counts file) file c.args.page old mid new pieces c.requires.plain (c.in_ok-write_free.ensures.edits told).bodies set holds
