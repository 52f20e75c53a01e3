use Rattle.std.proofs.Common.{◌≡◌, ◌∙◌, ◌+◌, ◌%◌, ℕ, Some, None, List, Bool, refl, sym, ap, subst, arith}
use Rattle.aria_host.specs.declared.file_name.FileName.{FileName}
use Rattle.aria_cache.specs.PageState.{PageState}
use Rattle.aria_block.specs.Causes.{rows_file}
use Rattle.aria_block.specs.DataFile.{HoldsData}
use Rattle.aria_block.specs.Reading.{OfPieces}
use Rattle.aria_block.specs.Cut.{PartTaken}
use Rattle.aria_block.specs.Deleting.{HasPart}
use Rattle.aria_block.proofs.ReadPages.{cause_first}
use Rattle.aria_block.proofs.OnPages.{none_past}
use Rattle.aria_block.proofs.Deleted.{off_page, cause_file, cause_past}
use Rattle.aria_block.proofs.deleting.remove_at.Goals as goal

pub returns-then-page-count-clause-cause : goal.returns-then-page-count-clause-cause
returns-then-page-count-clause-cause g c =
    let old : PageState = g.P.Pages.state c.args.pages.now in
    let file : FileName = rows_file old c.args.slot in
    cause_first (OfPieces g.P.Pages.tells g.P.Pages.logged (HasPart c.args.kind (record { page = c.args.page; slot = c.args.nth })) file old (g.P.Pages.state c.stop.new.self)) old (g.P.Pages.state c.stop.new.self) _ c.stop.result c.stop.ensures.fault c.stop.ensures.stops (
      c.file-file.ensures,
      λ told pieces holds has.
          let count = c.count.ensures.count in
          let past = c.if-page-count.true in
          let zeros = g.met.P.Pages.past c.args.pages.now file c.args.page told c.requires.stands (omega (arith, count, past)) in
          let none : pieces c.args.page c.args.nth ≡ None = none_past (old.counts file) (old.bodies file) pieces holds c.args.page zeros c.args.nth in
          let there = has.there in absurd (cc),
    )

pub returns-then-page-eq0-clause-cause : goal.returns-then-page-eq0-clause-cause
returns-then-page-eq0-clause-cause g c =
    let old : PageState = g.P.Pages.state c.args.pages.now in
    let file : FileName = rows_file old c.args.slot in
    let new : PageState = g.P.Pages.state c.stop-then-page-eq0.new.self in
    cause_first (OfPieces g.P.Pages.tells g.P.Pages.logged (HasPart c.args.kind (record { page = c.args.page; slot = c.args.nth })) file old new) old new _ c.stop-then-page-eq0.result c.stop-then-page-eq0.ensures.fault c.stop-then-page-eq0.ensures.stops (
      c.file-file.ensures,
      λ told pieces holds has.
          let none : pieces c.args.page c.args.nth ≡ None = holds.file.none c.args.page c.args.nth c.if-page-eq0.true in
          let there = has.there in absurd (cc),
    )

pub returns-in-Ok-true-clause-holds : goal.returns-in-Ok-true-clause-holds
returns-in-Ok-true-clause-holds g c = λ told pieces holds has.
    let old : PageState = g.P.Pages.state c.args.pages.now in
    let new : PageState = g.P.Pages.state c.remove_part.new.pages in
    let file : FileName = rows_file old c.args.slot in
    subst (HoldsData (old.counts file) (new.bodies file)) (off_page c.args.page c.args.nth pieces)
    (subst (λ (b : Bool). PartTaken c.args.page c.args.nth (old.counts file) (new.bodies file) pieces b) c.in-Ok-true.field-0-test (c.in-Ok-true.ensures.holds told pieces has.bytes holds has.there))

pub returns-in-Ok-false-clause-cause : goal.returns-in-Ok-false-clause-cause
returns-in-Ok-false-clause-cause g c =
    let old : PageState = g.P.Pages.state c.args.pages.now in
    let mid : PageState = g.P.Pages.state c.remove_part.new.pages in
    let new : PageState = g.P.Pages.state c.stop-in-Ok-false.new.self in
    let file : FileName = rows_file old c.args.slot in
    cause_past (OfPieces g.P.Pages.tells g.P.Pages.logged (HasPart c.args.kind (record { page = c.args.page; slot = c.args.nth })) file old new) old mid new _ c.stop-in-Ok-false.result c.in-Ok-false.ensures.answers.keeps (c.in-Ok-false.ensures.cause.calm refl) c.stop-in-Ok-false.ensures.fault c.stop-in-Ok-false.ensures.stops (
      c.file-file.ensures,
      λ told pieces holds has. subst (λ (b : Bool). PartTaken c.args.page c.args.nth (old.counts file) (mid.bodies file) pieces b) c.in-Ok-false.field-0-test (c.in-Ok-false.ensures.holds told pieces has.bytes holds has.there),
    )

pub returns-in-Err-clause-cause : goal.returns-in-Err-clause-cause
returns-in-Err-clause-cause g c =
    let old : PageState = g.P.Pages.state c.args.pages.now in
    cause_file g.P.Pages.tells g.P.Pages.logged (HasPart c.args.kind (record { page = c.args.page; slot = c.args.nth })) (rows_file old c.args.slot) old (g.P.Pages.state c.remove_part.new.pages) _ c.in-Err.ensures.cause
