use Rattle.std.proofs.Common.{◌≡◌, ◌∙◌, ◌+◌, ℕ, Some, None, sym, ap, subst, arith}
use Rattle.std.proofs.lemmas.Result.{err_from_is_err_and}
use Rattle.aria_cache.specs.PageState.{PageState}
use Rattle.aria_block.specs.Causes.{rows_file}
use Rattle.aria_block.specs.Pieces.{Blob, blob_of, blob_count}
use Rattle.aria_block.specs.Reading.{OfPieces, HasBlob, HasAllBlobs}
use Rattle.aria_block.proofs.Measuring.{blob_count-few, text_first, text_next, text_last}
use Rattle.aria_block.proofs.ReadPages.{went, holds_then, pieces_then, cause_read, loads_both, loads_upto, loads_none, answers_none, answers_then, cause_none, cause_ok}
use Rattle.aria_block.proofs.row_reading.read_blobs.Goals as goal

pub loop-k-init : goal.loop-k-init
loop-k-init g c =
    let old : PageState = g.P.Pages.state c.args.pages.now in
    record {
      stands = c.requires.stands;
      moves = g.met.P.Pages.stays_same c.args.pages.now;
      loads = loads_none g.P.Pages.tells old;
      text = λ told pieces row holds has start. text_first row c.args.out.now start;
      answers = answers_none old c.requires.calm;
      cause = cause_none (OfPieces g.P.Pages.tells g.P.Pages.logged (HasAllBlobs c.args.head.now) (rows_file old c.args.slot) old old) old;
    }

pub loop-k-preserved : goal.loop-k-preserved
loop-k-preserved g c =
    let old : PageState = g.P.Pages.state c.args.pages.now in
    let now : PageState = g.P.Pages.state c.loop-k.pages in
    let new : PageState = g.P.Pages.state c.read_blob.new.pages in
    let inv = c.loop-k.invariant in
    let ok = c.in_ok-read_blob.ensures in
    let w = went g.P.Pages.tells c.loop-k.k c.args.slot (OfPieces g.P.Pages.tells g.P.Pages.logged (HasAllBlobs c.args.head.now) (rows_file old c.args.slot) old now) old now inv.loads inv.answers inv.cause in
    record {
      stands = ok.stands;
      moves = g.met.P.Pages.stays_on c.args.pages.now c.loop-k.pages c.read_blob.new.pages inv.moves ok.moves;
      loads = loads_both g.P.Pages.tells c.loop-k.k 1 (c.loop-k.k + 1) old now new inv.loads ok.loads (omega arith);
      text = λ told pieces row holds has start.
          let lt = c.loop-k-test.true in
          let few = blob_count-few c.args.head.now.len c.requires.sized.few in
          let count = c.requires.sized.blobs in
          let low = has.low in
          let add = c.saturating_add-page.ensures in
          let page : c.saturating_add-page.result ≡ c.args.head.now.blob + c.loop-k.k = omega (arith, add, low, lt, few, count) in
          text_next row c.loop-k.out c.read_blob.new.out c.loop-k.k (inv.text told pieces row holds has start)
          (ok.blob told pieces (blob_of row c.loop-k.k) (holds_then g.P.Pages.tells c.args.slot old now pieces w told holds)
          (subst (λ (n : ℕ). pieces n 0 ≡ Some (Blob (blob_of row c.loop-k.k))) (sym page) (has.there c.loop-k.k lt)) (sym (c.blob_size.ensures.size row (sym has.len))));
      answers = answers_then old now new None inv.answers ok.answers;
      cause = cause_read g.P.Pages.tells c.args.slot _ (OfPieces g.P.Pages.tells g.P.Pages.logged (HasAllBlobs c.args.head.now) (rows_file old c.args.slot) old new) old now new None w
          (λ f k. k) (cause_ok _ (OfPieces g.P.Pages.tells g.P.Pages.logged (HasAllBlobs c.args.head.now) (rows_file old c.args.slot) old new) now new ok.cause);
    }

pub returns-in_err-read_blob-clause-cause : goal.returns-in_err-read_blob-clause-cause
returns-in_err-read_blob-clause-cause g c =
    let old : PageState = g.P.Pages.state c.args.pages.now in
    let now : PageState = g.P.Pages.state c.loop-k.pages in
    let new : PageState = g.P.Pages.state c.read_blob.new.pages in
    let inv = c.loop-k.invariant in
    let page : ℕ = c.saturating_add-page.result in
    let w = went g.P.Pages.tells c.loop-k.k c.args.slot (OfPieces g.P.Pages.tells g.P.Pages.logged (HasAllBlobs c.args.head.now) (rows_file old c.args.slot) old now) old now inv.loads inv.answers inv.cause in
    let p = err_from_is_err_and c.from_residual.result c.from_residual.ensures.1 in
    rw (p.1, p.2) (cause_read g.P.Pages.tells c.args.slot (OfPieces g.P.Pages.tells g.P.Pages.logged (HasBlob page) (rows_file now c.args.slot) now new) (OfPieces g.P.Pages.tells g.P.Pages.logged (HasAllBlobs c.args.head.now) (rows_file old c.args.slot) old new) old now new _ w
    (pieces_then g.P.Pages.tells g.P.Pages.logged c.args.slot (HasAllBlobs c.args.head.now) (HasBlob page) old now new w (λ pieces told holds has.
    let lt = c.loop-k-test.true in
    let few = blob_count-few c.args.head.now.len c.requires.sized.few in
    let count = c.requires.sized.blobs in
    let low = has.1.low in
    let add = c.saturating_add-page.ensures in
    let same : page ≡ c.args.head.now.blob + c.loop-k.k = omega (arith, add, low, lt, few, count) in
    record { bytes = blob_of has.0 c.loop-k.k; there = subst (λ (n : ℕ). pieces n 0 ≡ Some (Blob (blob_of has.0 c.loop-k.k))) (sym same) (has.1.there c.loop-k.k lt) }))
    c.in_err-read_blob.ensures.cause)

pub returns-in_err-read_blob-clause-loads : goal.returns-in_err-read_blob-clause-loads
returns-in_err-read_blob-clause-loads g c =
    let old : PageState = g.P.Pages.state c.args.pages.now in
    let now : PageState = g.P.Pages.state c.loop-k.pages in
    let new : PageState = g.P.Pages.state c.read_blob.new.pages in
    let lt = c.loop-k-test.true in
    let few = blob_count-few c.args.head.now.len c.requires.sized.few in
    let count = c.requires.sized.blobs in
    loads_both g.P.Pages.tells c.loop-k.k 1 9 old now new c.loop-k.invariant.loads c.in_err-read_blob.ensures.loads (omega (arith, lt, few, count))

pub returns-clause-loads : goal.returns-clause-loads
returns-clause-loads g c =
    let few = blob_count-few c.args.head.now.len c.requires.sized.few in
    let count = c.requires.sized.blobs in
    loads_upto g.P.Pages.tells c.loop-k.k 9 (g.P.Pages.state c.args.pages.now) (g.P.Pages.state c.loop-k.pages) c.loop-k.invariant.loads (omega (arith, c.loop-k.auto.k-end, few, count))

pub returns-clause-blobs : goal.returns-clause-blobs
returns-clause-blobs g c = λ told pieces row holds has start.
    let count = c.requires.sized.blobs in
    let past = c.loop-k-test.false in
    let all : c.loop-k.k ≡ c.args.head.now.blobs = omega (arith, past, c.loop-k.auto.k-end) in
    text_last row c.loop-k.out c.loop-k.k (all ∙ count ∙ ap blob_count has.len) (c.loop-k.invariant.text told pieces row holds has start)
