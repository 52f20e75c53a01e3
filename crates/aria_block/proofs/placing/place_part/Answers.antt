use Rattle.std.proofs.Common.{◌≡◌, ℕ, List, ap, subst}
use Rattle.aria_host.specs.declared.file_name.FileName.{FileName}
use Rattle.aria_host.specs.declared.file_name.FileName.TheVariants.{Rows}
use Rattle.aria_cache.specs.PageState.{PageState}
use Rattle.aria_block.specs.Causes.{rows_file}
use Rattle.aria_block.specs.Puts.{SetsCode}
use Rattle.aria_block.proofs.Kept.{part_kept}
use Rattle.aria_block.proofs.placing.place_part.Goals as goal

pub returns-clause-holds : goal.returns-clause-holds
returns-clause-holds g c = λ told pieces holds.
    let old : PageState = g.P.Pages.state c.args.pages.now in
    let mid : PageState = g.P.Pages.state c.put_part.new.pages in
    let new : PageState = g.P.Pages.state c.set_code.new.pages in
    let put = rw c.in-Some.is at (c.in_ok-found.ensures.puts told) in
    let same : rows_file mid c.args.slot ≡ rows_file old c.args.slot = ap (λ (f : ℕ → List ℕ). Rows (f c.args.slot)) c.in_ok-found.ensures.slots.name in
    let set = subst (λ (f : FileName). SetsCode f c.args.page mid new) same (c.in_ok-set_code.ensures.sets told) in
    part_kept c.args.kind (old.counts (rows_file old c.args.slot)) (rows_file old c.args.slot) c.args.page c.args.nth c.in-Some.found c.args.bytes.now old mid new pieces c.requires.plain put set holds
