use Rattle.std.proofs.Common.{◌≡◌, ◌∙◌, ◌+◌, ◌%◌, ℕ, Some, None, List, Bool, refl, sym, ap, subst, arith}
use Rattle.aria_host.specs.declared.file_name.FileName.{FileName}
use Rattle.aria_cache.specs.PageState.{PageState}
use Rattle.aria_block.specs.Causes.{rows_file}
use Rattle.aria_block.specs.DataFile.{HoldsData}
use Rattle.aria_block.specs.Reading.{OfPieces, HasBlob}
use Rattle.aria_block.proofs.ReadPages.{cause_first}
use Rattle.aria_block.proofs.OnPages.{none_past}
use Rattle.aria_block.proofs.Deleted.{cause_file}
use Rattle.aria_block.proofs.deleting.free_at.Goals as goal

pub returns-then-page-count-clause-cause : goal.returns-then-page-count-clause-cause
returns-then-page-count-clause-cause g c =
    let old : PageState = g.P.Pages.state c.args.pages.now in
    let file : FileName = rows_file old c.args.slot in
    cause_first (OfPieces g.P.Pages.tells g.P.Pages.logged (HasBlob c.args.page) file old (g.P.Pages.state c.stop.new.self)) old (g.P.Pages.state c.stop.new.self) _ c.stop.result c.stop.ensures.fault c.stop.ensures.stops (
      c.file-file.ensures,
      λ told pieces holds has.
          let count = c.count.ensures.count in
          let past = c.if-page-count.true in
          let zeros = g.met.P.Pages.past c.args.pages.now file c.args.page told c.requires.stands (omega (arith, count, past)) in
          let none : pieces c.args.page 0 ≡ None = none_past (old.counts file) (old.bodies file) pieces holds c.args.page zeros 0 in
          let there = has.there in absurd (cc),
    )

pub returns-then-page-eq0-clause-cause : goal.returns-then-page-eq0-clause-cause
returns-then-page-eq0-clause-cause g c =
    let old : PageState = g.P.Pages.state c.args.pages.now in
    let file : FileName = rows_file old c.args.slot in
    let new : PageState = g.P.Pages.state c.stop-then-page-eq0.new.self in
    cause_first (OfPieces g.P.Pages.tells g.P.Pages.logged (HasBlob c.args.page) file old new) old new _ c.stop-then-page-eq0.result c.stop-then-page-eq0.ensures.fault c.stop-then-page-eq0.ensures.stops (
      c.file-file.ensures,
      λ told pieces holds has.
          let none : pieces c.args.page 0 ≡ None = holds.file.none c.args.page 0 c.if-page-eq0.true in
          let there = has.there in absurd (cc),
    )

pub returns-clause-cause : goal.returns-clause-cause
returns-clause-cause g c =
    let old : PageState = g.P.Pages.state c.args.pages.now in
    cause_file g.P.Pages.tells g.P.Pages.logged (HasBlob c.args.page) (rows_file old c.args.slot) old (g.P.Pages.state c.free_page.new.pages) _ c.free_page.ensures.cause
