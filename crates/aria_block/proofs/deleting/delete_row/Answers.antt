use Rattle.std.proofs.Common.{◌≡◌, ◌≢◌, ℕ, ◌+◌, ◌-◌, ◌<◌, ◌≤◌, ◌^◌, Bool, None, Some, Option, List, length, refl, sym, ap, ◌∙◌, arith, subst}
use Rattle.std.specs.Prelude.{IsTrue, OnOk, Result, Ok, Err}
use Rattle.std.proofs.lemmas.Result.{err_from_is_err_and}
use Rattle.aria_page.specs.declared.place.Place.{Place}
use Rattle.aria_page.specs.declared.place.Places.{Places}
use Rattle.aria_host.specs.declared.file_name.FileName.{FileName}
use Rattle.aria_cache.specs.PageState.{PageState, Counts}
use Rattle.aria_block.specs.declared.part_kind.PartKind.TheVariants as part
use Rattle.aria_block.specs.Causes.{rows_file}
use Rattle.aria_block.specs.Pieces.{Pieces, without_row}
use Rattle.aria_block.specs.DataFile.{HoldsData}
use Rattle.aria_block.specs.Deleting.{HasPart, HasPages, HasTailAt, HasRowAt, without_at, without_pages, without_tail}
use Rattle.aria_block.specs.Rows.{Kept, Rows, IsTiled, without_kept}
use Rattle.aria_block.specs.HoldsRows.{HoldsRows, TakesRow}
use Rattle.aria_block.specs.Reading.{OfPieces}
use Rattle.aria_block.proofs.ReadPages.{cause_first, cause_asked}
use Rattle.aria_block.proofs.Stepping.{same_rows}
use Rattle.aria_block.proofs.RowTaken.{TookPieces, took, holds_then, cause_since}
use Rattle.aria_block.proofs.RowGone.{few_blobs, head_part, tail_part, blob_pages, took_rows}
use Rattle.aria_block.proofs.deleting.delete_row.Goals as goal

pub returns-then-places-gt-BLOBS_MAX-clause-cause : goal.returns-then-places-gt-BLOBS_MAX-clause-cause
returns-then-places-gt-BLOBS_MAX-clause-cause g c =
    let old : PageState = g.P.Pages.state c.args.pages.now in
    let file : FileName = rows_file old c.args.slot in
    let new : PageState = g.P.Pages.state c.stop.new.self in
    let places : Places = c.args.places.now in
    cause_first (OfPieces g.P.Pages.tells g.P.Pages.logged (HasRowAt places) file old new) old new _ c.stop.result c.stop.ensures.fault c.stop.ensures.stops (
      c.file-file.ensures,
      λ told pieces holds has.
          let row : Kept = record { places = places; row = has.row } in
          let few : places.blobs ≤ 8 = few_blobs row (has.tiled.laid places.head.page places.head.slot row has.there) has.fits.1 in
          let low : places.blob < 2 ^ 31 = has.fits.0.blob in
          elim c.then-places-gt-BLOBS_MAX.branch [
            | goal.then-places-gt-BLOBS_MAX-via-then-places-gt-BLOBS_MAX w ↦ let many = w.if-places-gt-BLOBS_MAX.true in absurd (omega (arith, few, many))
            | goal.then-places-gt-BLOBS_MAX-via-else-places-gt-BLOBS_MAX+then-places-ge-PAGES_MAX w ↦ let high = w.if-places-ge-PAGES_MAX.true in absurd (omega (arith, low, high))
          ],
    )

pub returns-in_err-remove_at-clause-cause : goal.returns-in_err-remove_at-clause-cause
returns-in_err-remove_at-clause-cause g c =
    let old : PageState = g.P.Pages.state c.args.pages.now in
    let new : PageState = g.P.Pages.state c.remove_at.new.pages in
    let places : Places = c.args.places.now in
    let p = err_from_is_err_and c.from_residual.result c.from_residual.ensures.1 in
    rw (p.1, p.2) (cause_asked g.P.Pages.tells g.P.Pages.logged (HasRowAt places) (HasPart part.Head places.head) (rows_file old c.args.slot) old new _
    (λ pieces has. head_part places pieces has) c.in_err-remove_at.ensures.cause)

pub returns-in_err-remove_tail-clause-cause : goal.returns-in_err-remove_tail-clause-cause
returns-in_err-remove_tail-clause-cause g c =
    let old : PageState = g.P.Pages.state c.args.pages.now in
    let mid : PageState = g.P.Pages.state c.remove_at.new.pages in
    let new : PageState = g.P.Pages.state c.remove_tail.new.pages in
    let places : Places = c.args.places.now in
    let file : FileName = rows_file old c.args.slot in
    let p = err_from_is_err_and c.from_residual-in_err-remove_tail.result c.from_residual-in_err-remove_tail.ensures.1 in
    rw (p.1, p.2) (cause_since g.P.Pages.tells g.P.Pages.logged (HasRowAt places) (HasPart part.Head places.head) (HasTailAt places.tail) (λ pieces. without_at places.head pieces) c.args.slot old mid new _ c.in_ok-remove_at.ensures.slots
    (took g.P.Pages.tells (HasPart part.Head places.head) (λ pieces. without_at places.head pieces) file old mid c.in_ok-remove_at.ensures.counts c.in_ok-remove_at.ensures.keeps (λ told pieces holds asked. c.in_ok-remove_at.ensures.holds told pieces holds asked))
    (λ pieces told holds has. (head_part places pieces has, tail_part places pieces has))
    c.in_ok-remove_at.ensures.cause c.in_ok-remove_at.ensures.answers.keeps c.in_err-remove_tail.ensures.cause)

pub returns-clause-rows : goal.returns-clause-rows
returns-clause-rows g c = λ told is_row pieces rows row held there fits.
    let old : PageState = g.P.Pages.state c.args.pages.now in
    let mid : PageState = g.P.Pages.state c.remove_at.new.pages in
    let low : PageState = g.P.Pages.state c.remove_tail.new.pages in
    let new : PageState = g.P.Pages.state c.free_all.new.pages in
    let places : Places = c.args.places.now in
    let file : FileName = rows_file old c.args.slot in
    let has : HasRowAt places pieces = record { is_row = is_row; rows = rows; tiled = held.tiled; row = row; there = there; fits = fits } in
    let one : rows_file mid c.args.slot ≡ file = same_rows c.args.slot old mid c.in_ok-remove_at.ensures.slots in
    let two : rows_file low c.args.slot ≡ file = same_rows c.args.slot mid low c.in_ok-remove_tail.ensures.slots ∙ one in
    let first : Pieces = without_at places.head pieces in
    let second : Pieces = without_tail places.tail first in
    let head : HoldsData (old.counts file) (mid.bodies file) first = c.in_ok-remove_at.ensures.holds told pieces held.data_file (head_part places pieces has) in
    let tail : HoldsData (old.counts file) (low.bodies file) second =
    subst (λ (k : Counts). HoldsData (k file) (low.bodies file) second) c.in_ok-remove_at.ensures.counts
    (subst (λ (f : FileName). HoldsData (mid.counts f) (low.bodies f) second) one
    (c.in_ok-remove_tail.ensures.holds told first (subst (λ (f : FileName). HoldsData (mid.counts f) (mid.bodies f) first) (sym one) (subst (λ (k : Counts). HoldsData (k file) (mid.bodies file) first) (sym c.in_ok-remove_at.ensures.counts) head)) (tail_part places pieces has))) in
    let same : low.counts ≡ old.counts = c.in_ok-remove_tail.ensures.counts ∙ c.in_ok-remove_at.ensures.counts in
    took_rows c.free_all.result is_row places row (old.counts file) (old.bodies file) (new.bodies file) pieces rows held there fits
    (subst (λ (k : Counts). OnOk c.free_all.result (HoldsData (k file) (new.bodies file) (without_pages places.blob places.blobs second))) same
    (subst (λ (f : FileName). OnOk c.free_all.result (HoldsData (low.counts f) (new.bodies f) (without_pages places.blob places.blobs second))) two
    (c.free_all.ensures.holds told second (subst (λ (f : FileName). HoldsData (low.counts f) (low.bodies f) second) (sym two) (subst (λ (k : Counts). HoldsData (k file) (low.bodies file) second) (sym same) tail)))))

pub returns-clause-cause : goal.returns-clause-cause
returns-clause-cause g c =
    let old : PageState = g.P.Pages.state c.args.pages.now in
    let mid : PageState = g.P.Pages.state c.remove_at.new.pages in
    let low : PageState = g.P.Pages.state c.remove_tail.new.pages in
    let new : PageState = g.P.Pages.state c.free_all.new.pages in
    let places : Places = c.args.places.now in
    let file : FileName = rows_file old c.args.slot in
    let few : places.blob + places.blobs < 2 ^ 32 = let many = c.if-places-gt-BLOBS_MAX.false in let high = c.if-places-ge-PAGES_MAX.false in omega (arith, many, high) in
    let tail_file : FileName = rows_file mid c.args.slot in
    let last = cause_since g.P.Pages.tells g.P.Pages.logged (λ pieces. HasTailAt places.tail pieces × HasPages places.blob places.blobs (without_tail places.tail pieces)) (HasTailAt places.tail) (HasPages places.blob places.blobs) (λ pieces. without_tail places.tail pieces) c.args.slot mid low new _ c.in_ok-remove_tail.ensures.slots
    (took g.P.Pages.tells (HasTailAt places.tail) (λ pieces. without_tail places.tail pieces) tail_file mid low c.in_ok-remove_tail.ensures.counts c.in_ok-remove_tail.ensures.keeps (λ told pieces holds asked. c.in_ok-remove_tail.ensures.holds told pieces holds asked))
    (λ pieces told holds has. has)
    c.in_ok-remove_tail.ensures.cause c.in_ok-remove_tail.ensures.answers.keeps c.free_all.ensures.cause in
    cause_since g.P.Pages.tells g.P.Pages.logged (HasRowAt places) (HasPart part.Head places.head) (λ pieces. HasTailAt places.tail pieces × HasPages places.blob places.blobs (without_tail places.tail pieces)) (λ pieces. without_at places.head pieces) c.args.slot old mid new _ c.in_ok-remove_at.ensures.slots
    (took g.P.Pages.tells (HasPart part.Head places.head) (λ pieces. without_at places.head pieces) file old mid c.in_ok-remove_at.ensures.counts c.in_ok-remove_at.ensures.keeps (λ told pieces holds asked. c.in_ok-remove_at.ensures.holds told pieces holds asked))
    (λ pieces told holds has. (head_part places pieces has, (tail_part places pieces has, blob_pages places pieces has few)))
    c.in_ok-remove_at.ensures.cause c.in_ok-remove_at.ensures.answers.keeps last
