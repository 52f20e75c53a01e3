use Rattle.std.proofs.Common.{arith}
use Rattle.aria_page.specs.declared.group.RedoKind.TheVariants.{Bitmap}
use Rattle.aria_cache.specs.PageState.{PageState}
use Rattle.aria_block.specs.Causes.{rows_file}
use Rattle.aria_block.proofs.Adding.{count_on_ok, data_on_ok, zeros_on_ok}
use Rattle.aria_block.proofs.growing.add_one.Goals as goal

pub returns-clause-count : goal.returns-clause-count
returns-clause-count g c =
    let old : PageState = g.P.Pages.state c.args.pages.now in
    let new : PageState = g.P.Pages.state c.edit.new.self in
    count_on_ok c.edit.result (rows_file old c.args.slot) c.args.page old new c.requires.end c.edit.ensures.counts

pub returns-clause-holds : goal.returns-clause-holds
returns-clause-holds g c = λ told pieces holds.
    let old : PageState = g.P.Pages.state c.args.pages.now in
    let new : PageState = g.P.Pages.state c.edit.new.self in
    let zeros = g.met.P.Pages.past c.args.pages.now (rows_file old c.args.slot) c.args.page told c.requires.stands (omega (arith, c.requires.end)) in
    data_on_ok c.edit.result g.P.Pages.logged Bitmap c.args.slot c.args.page c.kind_at.result old new pieces c.kind_at.ensures c.requires.end zeros (c.edit.ensures.edits told) c.edit.ensures.counts holds

pub returns-clause-zeros : goal.returns-clause-zeros
returns-clause-zeros g c = λ told plain.
    let old : PageState = g.P.Pages.state c.args.pages.now in
    let new : PageState = g.P.Pages.state c.edit.new.self in
    let zeros = g.met.P.Pages.past c.args.pages.now (rows_file old c.args.slot) c.args.page told c.requires.stands (omega (arith, c.requires.end)) in
    zeros_on_ok c.edit.result g.P.Pages.logged Bitmap c.args.slot c.args.page c.kind_at.result old new c.kind_at.ensures plain zeros (c.edit.ensures.edits told)
