use Rattle.std.proofs.Common.{◌≡◌, ◌∙◌, Some, None, sym, ap, subst, arith}
use Rattle.aria_host.specs.declared.file_name.FileName.{FileName}
use Rattle.aria_cache.specs.PageState.{PageState}
use Rattle.aria_page.specs.Page.{page_body}
use Rattle.aria_block.specs.Causes.{rows_file}
use Rattle.aria_block.specs.Reading.{OfPieces, HasBlob, CopiesBlob}
use Rattle.aria_block.proofs.ReadPages.{went, cause_first, cause_found}
use Rattle.aria_block.proofs.OnPages.{none_past, reads_blob, no_blob}
use Rattle.aria_block.proofs.row_reading.read_blob.Goals as goal

pub returns-then-page-count-clause-cause : goal.returns-then-page-count-clause-cause
returns-then-page-count-clause-cause g c =
    let old : PageState = g.P.Pages.state c.args.pages.now in
    let file : FileName = rows_file old c.args.slot in
    cause_first (OfPieces g.P.Pages.tells g.P.Pages.logged (HasBlob c.args.page) file old (g.P.Pages.state c.stop.new.self)) old (g.P.Pages.state c.stop.new.self) _ c.stop.result c.stop.ensures.fault c.stop.ensures.stops (
      c.file-file.ensures,
      λ told pieces holds has.
          let count = c.count.ensures.count in
          let past = c.if-page-count.true in
          let zeros = g.met.P.Pages.past c.args.pages.now file c.args.page told c.requires.stands (omega (arith, count, past)) in
          let none : pieces c.args.page 0 ≡ None = none_past (old.counts file) (old.bodies file) pieces holds c.args.page zeros 0 in
          let there = has.there in absurd (cc),
    )

pub returns-in-Ok-true-clause-blob : goal.returns-in-Ok-true-clause-blob
returns-in-Ok-true-clause-blob g c = λ told pieces bytes holds is long.
    let old : PageState = g.P.Pages.state c.args.pages.now in
    let file : FileName = rows_file old c.args.slot in
    let there = c.in_ok-load.ensures.loaded told ∙ ap Some (sym c.loaded.ensures.body) in
    reads_blob (old.counts file) (old.bodies file) pieces holds c.args.page (page_body c.loaded.result.now) there c.args.len bytes c.args.out.now c.copy_blob.new.out
    (subst (CopiesBlob c.args.len (page_body c.loaded.result.now) c.args.out.now c.copy_blob.new.out) c.in-Ok-true.field-0-test c.in-Ok-true.ensures) is long

pub returns-in-Ok-false-clause-cause : goal.returns-in-Ok-false-clause-cause
returns-in-Ok-false-clause-cause g c =
    let old : PageState = g.P.Pages.state c.args.pages.now in
    let mid : PageState = g.P.Pages.state c.load.new.self in
    let new : PageState = g.P.Pages.state c.stop-in-Ok-false.new.self in
    let file : FileName = rows_file old c.args.slot in
    cause_found g.P.Pages.tells c.args.slot (OfPieces g.P.Pages.tells g.P.Pages.logged (HasBlob c.args.page) file old new) old mid new _ c.stop-in-Ok-false.result
    (went g.P.Pages.tells 1 c.args.slot _ old mid c.in_ok-load.ensures.loads c.in_ok-load.ensures.answers c.in_ok-load.ensures.cause) c.stop-in-Ok-false.ensures.fault c.stop-in-Ok-false.ensures.stops (
      c.file-file.ensures,
      λ told pieces holds has.
          let there = c.in_ok-load.ensures.loaded told ∙ ap Some (sym c.loaded.ensures.body) in
          no_blob (old.counts file) (old.bodies file) pieces holds c.args.page (page_body c.loaded.result.now) there c.args.len c.args.out.now c.copy_blob.new.out
          (subst (CopiesBlob c.args.len (page_body c.loaded.result.now) c.args.out.now c.copy_blob.new.out) c.in-Ok-false.field-0-test c.in-Ok-false.ensures) has,
    )
