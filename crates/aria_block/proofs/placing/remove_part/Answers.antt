use Rattle.std.proofs.Common.{rules, ◌≡◌, ℕ, List, true, false, ap, subst}
use Rattle.aria_host.specs.declared.file_name.FileName.{FileName}
use Rattle.aria_host.specs.declared.file_name.FileName.TheVariants.{Rows}
use Rattle.aria_cache.specs.PageState.{PageState}
use Rattle.aria_block.specs.Causes.{rows_file}
use Rattle.aria_block.specs.Cut.{TakesOrNot}
use Rattle.aria_block.specs.Puts.{SetsCode}
use Rattle.aria_block.proofs.Kept.{part_taken, part_found}
use Rattle.aria_block.proofs.placing.remove_part.Goals as goal

pub returns-then-not-branch-clause-holds : goal.returns-then-not-branch-clause-holds
returns-then-not-branch-clause-holds g c = λ told pieces bytes holds there.
    let old : PageState = g.P.Pages.state c.args.pages.now in
    let new : PageState = g.P.Pages.state c.take_part.new.pages in
    let file : FileName = rows_file old c.args.slot in
    let none : c.in_ok-take_part.field-0 ≡ false = search (rules, c.if-not-branch.true) in
    part_found c.args.kind (old.counts file) file c.args.page c.args.nth bytes old new pieces c.requires.plain
    (subst (TakesOrNot c.args.kind file c.args.page c.args.nth old new) none (c.in_ok-take_part.ensures.takes told)) holds there

pub returns-clause-holds : goal.returns-clause-holds
returns-clause-holds g c = λ told pieces bytes holds there.
    let old : PageState = g.P.Pages.state c.args.pages.now in
    let mid : PageState = g.P.Pages.state c.take_part.new.pages in
    let new : PageState = g.P.Pages.state c.set_code.new.pages in
    let file : FileName = rows_file old c.args.slot in
    let yes : c.in_ok-take_part.field-0 ≡ true = search (rules, c.if-not-branch.false) in
    let take = subst (TakesOrNot c.args.kind file c.args.page c.args.nth old mid) yes (c.in_ok-take_part.ensures.takes told) in
    let same : rows_file mid c.args.slot ≡ file = ap (λ (f : ℕ → List ℕ). Rows (f c.args.slot)) c.in_ok-take_part.ensures.slots.name in
    let set = subst (λ (f : FileName). SetsCode f c.args.page mid new) same (c.in_ok-set_code.ensures.sets told) in
    part_taken c.args.kind (old.counts file) file c.args.page c.args.nth bytes old mid new pieces c.requires.plain take set holds there
