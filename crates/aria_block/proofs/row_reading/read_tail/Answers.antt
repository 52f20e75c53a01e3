use Rattle.std.proofs.Common.{◌≡◌, ◌∙◌, Some, None, sym, ap, subst, arith}
use Rattle.aria_host.specs.declared.file_name.FileName.{FileName}
use Rattle.aria_cache.specs.PageState.{PageState}
use Rattle.aria_page.specs.Page.{page_body}
use Rattle.aria_block.specs.Causes.{rows_file}
use Rattle.aria_block.specs.Reading.{OfPieces, HasTail, CopiesTail}
use Rattle.aria_block.proofs.ReadPages.{went, cause_first, cause_found}
use Rattle.aria_block.proofs.OnPages.{none_past, reads_tail, no_tail}
use Rattle.aria_block.proofs.row_reading.read_tail.Goals as goal

pub returns-then-page-count-clause-cause : goal.returns-then-page-count-clause-cause
returns-then-page-count-clause-cause g c =
    let old : PageState = g.P.Pages.state c.args.pages.now in
    let file : FileName = rows_file old c.args.slot in
    cause_first (OfPieces g.P.Pages.tells g.P.Pages.logged (HasTail (record { page = c.args.page; slot = c.args.nth }) c.args.len) file old (g.P.Pages.state c.stop.new.self)) old (g.P.Pages.state c.stop.new.self) _ c.stop.result c.stop.ensures.fault c.stop.ensures.stops (
      c.file-file.ensures,
      λ told pieces holds has.
          let count = c.count.ensures.count in
          let past = c.if-page-count.true in
          let zeros = g.met.P.Pages.past c.args.pages.now file c.args.page told c.requires.stands (omega (arith, count, past)) in
          let none : pieces c.args.page c.args.nth ≡ None = none_past (old.counts file) (old.bodies file) pieces holds c.args.page zeros c.args.nth in
          let there = has.there in absurd (cc),
    )

pub returns-in-Ok-true-clause-tail : goal.returns-in-Ok-true-clause-tail
returns-in-Ok-true-clause-tail g c = λ told pieces bytes holds is long.
    let old : PageState = g.P.Pages.state c.args.pages.now in
    let file : FileName = rows_file old c.args.slot in
    let there = c.in_ok-load.ensures.loaded told ∙ ap Some (sym c.loaded.ensures.body) in
    reads_tail (old.counts file) (old.bodies file) pieces holds c.args.page (page_body c.loaded.result.now) there c.args.nth c.args.len bytes c.args.out.now c.copy_tail.new.out
    (subst (CopiesTail c.args.nth c.args.len (page_body c.loaded.result.now) c.args.out.now c.copy_tail.new.out) c.in-Ok-true.field-0-test c.in-Ok-true.ensures) is

pub returns-in-Ok-false-clause-cause : goal.returns-in-Ok-false-clause-cause
returns-in-Ok-false-clause-cause g c =
    let old : PageState = g.P.Pages.state c.args.pages.now in
    let mid : PageState = g.P.Pages.state c.load.new.self in
    let new : PageState = g.P.Pages.state c.stop-in-Ok-false.new.self in
    let file : FileName = rows_file old c.args.slot in
    cause_found g.P.Pages.tells c.args.slot (OfPieces g.P.Pages.tells g.P.Pages.logged (HasTail (record { page = c.args.page; slot = c.args.nth }) c.args.len) file old new) old mid new _ c.stop-in-Ok-false.result
    (went g.P.Pages.tells 1 c.args.slot _ old mid c.in_ok-load.ensures.loads c.in_ok-load.ensures.answers c.in_ok-load.ensures.cause) c.stop-in-Ok-false.ensures.fault c.stop-in-Ok-false.ensures.stops (
      c.file-file.ensures,
      λ told pieces holds has.
          let there = c.in_ok-load.ensures.loaded told ∙ ap Some (sym c.loaded.ensures.body) in
          no_tail (old.counts file) (old.bodies file) pieces holds c.args.page (page_body c.loaded.result.now) there c.args.nth c.args.len c.args.out.now c.copy_tail.new.out
          (subst (CopiesTail c.args.nth c.args.len (page_body c.loaded.result.now) c.args.out.now c.copy_tail.new.out) c.in-Ok-false.field-0-test c.in-Ok-false.ensures) has,
    )
