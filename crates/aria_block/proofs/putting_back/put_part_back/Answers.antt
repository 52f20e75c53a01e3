use Rattle.std.proofs.Common.{length, refl, arith}
use Rattle.aria_host.specs.declared.file_name.FileName.{FileName}
use Rattle.aria_cache.specs.PageState.{PageState}
use Rattle.aria_block.specs.Causes.{rows_file}
use Rattle.aria_block.specs.Pieces.{Pieces}
use Rattle.aria_block.specs.Reading.{OfPieces}
use Rattle.aria_block.specs.PuttingBack.{TakesPartAt}
use Rattle.aria_block.proofs.ReadPages.{cause_first}
use Rattle.aria_block.proofs.Deleted.{cause_file, cause_past}
use Rattle.aria_block.proofs.PartsBack.{back_holds, back_free}
use Rattle.aria_block.proofs.putting_back.put_part_back.Goals as goal

pub returns-then-page-count-clause-cause : goal.returns-then-page-count-clause-cause
returns-then-page-count-clause-cause g c =
    let old : PageState = g.P.Pages.state c.args.pages.now in
    let new : PageState = g.P.Pages.state c.stop.new.self in
    let file : FileName = rows_file old c.args.slot in
    cause_first (OfPieces g.P.Pages.tells g.P.Pages.logged (λ (pieces : Pieces). TakesPartAt c.args.kind (record { page = c.args.page; slot = c.args.nth }) (length c.args.bytes.now) (old.counts file) (old.bodies file)) file old new) old new _ c.stop.result c.stop.ensures.fault c.stop.ensures.stops (
      c.file-file.ensures,
      λ told pieces holds takes. let count = c.count.ensures.count in let past = c.if-page-count.true in let below = takes.below in omega (arith, count, past, below),
    )

pub returns-then-page-eq0-clause-cause : goal.returns-then-page-eq0-clause-cause
returns-then-page-eq0-clause-cause g c =
    let old : PageState = g.P.Pages.state c.args.pages.now in
    let new : PageState = g.P.Pages.state c.stop-then-page-eq0.new.self in
    let file : FileName = rows_file old c.args.slot in
    cause_first (OfPieces g.P.Pages.tells g.P.Pages.logged (λ (pieces : Pieces). TakesPartAt c.args.kind (record { page = c.args.page; slot = c.args.nth }) (length c.args.bytes.now) (old.counts file) (old.bodies file)) file old new) old new _ c.stop-then-page-eq0.result c.stop-then-page-eq0.ensures.fault c.stop-then-page-eq0.ensures.stops (
      c.file-file.ensures,
      λ told pieces holds takes. takes.plain c.if-page-eq0.true,
    )

pub returns-in-Ok-Some-clause-holds : goal.returns-in-Ok-Some-clause-holds
returns-in-Ok-Some-clause-holds g c = λ told pieces holds.
    let old : PageState = g.P.Pages.state c.args.pages.now in
    let new : PageState = g.P.Pages.state c.place_part.new.pages in
    let file : FileName = rows_file old c.args.slot in
    let kept = rw c.in-Ok-Some.field-0-is at (c.in-Ok-Some.ensures.holds told pieces holds) in
    back_holds c.args.kind (old.counts file) (new.bodies file) c.args.page c.args.nth _ c.args.bytes.now pieces kept

pub returns-in-Ok-Some-clause-free : goal.returns-in-Ok-Some-clause-free
returns-in-Ok-Some-clause-free g c = λ told pieces holds.
    let old : PageState = g.P.Pages.state c.args.pages.now in
    let new : PageState = g.P.Pages.state c.place_part.new.pages in
    let file : FileName = rows_file old c.args.slot in
    let kept = rw c.in-Ok-Some.field-0-is at (c.in-Ok-Some.ensures.holds told pieces holds) in
    back_free c.args.kind (old.counts file) (new.bodies file) c.args.page c.args.nth _ c.args.bytes.now pieces kept

pub returns-in-Ok-None-clause-cause : goal.returns-in-Ok-None-clause-cause
returns-in-Ok-None-clause-cause g c =
    let old : PageState = g.P.Pages.state c.args.pages.now in
    let mid : PageState = g.P.Pages.state c.place_part.new.pages in
    let new : PageState = g.P.Pages.state c.stop-in-Ok-None.new.self in
    let file : FileName = rows_file old c.args.slot in
    cause_past (OfPieces g.P.Pages.tells g.P.Pages.logged (λ (pieces : Pieces). TakesPartAt c.args.kind (record { page = c.args.page; slot = c.args.nth }) (length c.args.bytes.now) (old.counts file) (old.bodies file)) file old new) old mid new _ c.stop-in-Ok-None.result c.in-Ok-None.ensures.answers.keeps (c.in-Ok-None.ensures.cause.calm refl) c.stop-in-Ok-None.ensures.fault c.stop-in-Ok-None.ensures.stops (
      c.file-file.ensures,
      λ told pieces holds takes.
          let none = rw c.in-Ok-None.field-0-is at (c.in-Ok-None.ensures.holds told pieces holds) in
          takes.room (holds.body c.args.page) (holds.sound c.args.page) (none.full (holds.body c.args.page) (holds.sound c.args.page)),
    )

pub returns-in-Err-clause-cause : goal.returns-in-Err-clause-cause
returns-in-Err-clause-cause g c =
    let old : PageState = g.P.Pages.state c.args.pages.now in
    let file : FileName = rows_file old c.args.slot in
    cause_file g.P.Pages.tells g.P.Pages.logged (λ (pieces : Pieces). TakesPartAt c.args.kind (record { page = c.args.page; slot = c.args.nth }) (length c.args.bytes.now) (old.counts file) (old.bodies file)) file old (g.P.Pages.state c.place_part.new.pages) _ c.in-Err.ensures.cause
