use Rattle.std.proofs.Common.{◌≡◌, ◌≢◌, ℕ, ◌+◌, ◌-◌, ◌<◌, ◌≤◌, Bool, None, Some, List, refl, sym, ap, ◌∙◌, arith, subst}
use Rattle.std.specs.Prelude.{OnOk}
use Rattle.std.proofs.lemmas.Result.{err_from_is_err_and}
use Rattle.aria_host.specs.declared.file_name.FileName.{FileName}
use Rattle.aria_cache.specs.PageState.{PageState, Counts}
use Rattle.aria_block.specs.Causes.{rows_file}
use Rattle.aria_block.specs.Pieces.{Pieces}
use Rattle.aria_block.specs.DataFile.{HoldsData, on_page}
use Rattle.aria_block.specs.Blob.{no_pieces}
use Rattle.aria_block.specs.Reading.{HasBlob}
use Rattle.aria_block.specs.Deleting.{HasPages, without_pages}
use Rattle.aria_block.proofs.ReadPages.{cause_asked}
use Rattle.aria_block.proofs.Stepping.{same_rows}
use Rattle.aria_block.proofs.RowTaken.{took, cause_since}
use Rattle.aria_block.proofs.RowGone.{pages_first, first_blob, other_blobs}
use Rattle.aria_block.proofs.deleting.+free_all.Goals as goal

some : (n : ℕ) → n ≢ 0 → 1 ≤ n
some n not = omega (arith, not)

pub returns-in_err-free_at-clause-cause : goal.returns-in_err-free_at-clause-cause
returns-in_err-free_at-clause-cause g t c =
    let old : PageState = g.P.Pages.state c.args.pages.now in
    let new : PageState = g.P.Pages.state c.free_at.new.pages in
    let p = err_from_is_err_and c.from_residual.result c.from_residual.ensures.1 in
    rw (p.1, p.2) (cause_asked g.P.Pages.tells g.P.Pages.logged (HasPages c.args.first c.args.n) (HasBlob c.args.first) (rows_file old c.args.slot) old new _
    (λ pieces has. first_blob c.args.first c.args.n pieces (some c.args.n (λ none. let not = c.if-n-eq0.false in not none)) has) c.in_err-free_at.ensures.cause)

pub returns-clause-holds : goal.returns-clause-holds
returns-clause-holds g t c = λ told pieces holds.
    let old : PageState = g.P.Pages.state c.args.pages.now in
    let mid : PageState = g.P.Pages.state c.free_at.new.pages in
    let new : PageState = g.P.Pages.state c.free_all.new.pages in
    let file : FileName = rows_file old c.args.slot in
    let some : 1 ≤ c.args.n = some c.args.n (λ none. let not = c.if-n-eq0.false in not none) in
    let same : rows_file mid c.args.slot ≡ file = same_rows c.args.slot old mid c.in_ok-free_at.ensures.slots in
    let one : HoldsData (old.counts file) (mid.bodies file) (on_page c.args.first no_pieces pieces) = c.in_ok-free_at.ensures.holds told pieces holds in
    let here : HoldsData (mid.counts file) (mid.bodies file) (on_page c.args.first no_pieces pieces) = subst (λ (k : Counts). HoldsData (k file) (mid.bodies file) (on_page c.args.first no_pieces pieces)) (sym c.in_ok-free_at.ensures.counts) one in
    let all : OnOk c.free_all.result (HoldsData (mid.counts file) (new.bodies file) (without_pages (c.args.first + 1) (c.args.n - 1) (on_page c.args.first no_pieces pieces))) =
    subst (λ (f : FileName). OnOk c.free_all.result (HoldsData (mid.counts f) (new.bodies f) (without_pages (c.args.first + 1) (c.args.n - 1) (on_page c.args.first no_pieces pieces)))) same
    (c.free_all.ensures.holds told (on_page c.args.first no_pieces pieces) (subst (λ (f : FileName). HoldsData (mid.counts f) (mid.bodies f) (on_page c.args.first no_pieces pieces)) (sym same) here)) in
    subst (λ (k : Counts). OnOk c.free_all.result (HoldsData (k file) (new.bodies file) (without_pages c.args.first c.args.n pieces))) c.in_ok-free_at.ensures.counts
    (subst (λ (f : Pieces). OnOk c.free_all.result (HoldsData (mid.counts file) (new.bodies file) f)) (pages_first c.args.first c.args.n pieces some) all)

pub returns-clause-cause : goal.returns-clause-cause
returns-clause-cause g t c =
    let old : PageState = g.P.Pages.state c.args.pages.now in
    let mid : PageState = g.P.Pages.state c.free_at.new.pages in
    let new : PageState = g.P.Pages.state c.free_all.new.pages in
    let some : 1 ≤ c.args.n = some c.args.n (λ none. let not = c.if-n-eq0.false in not none) in
    let file : FileName = rows_file old c.args.slot in
    cause_since g.P.Pages.tells g.P.Pages.logged (HasPages c.args.first c.args.n) (HasBlob c.args.first) (HasPages (c.args.first + 1) (c.args.n - 1)) (λ pieces. on_page c.args.first no_pieces pieces) c.args.slot old mid new _ c.in_ok-free_at.ensures.slots
    (took g.P.Pages.tells (HasBlob c.args.first) (λ pieces. on_page c.args.first no_pieces pieces) file old mid c.in_ok-free_at.ensures.counts c.in_ok-free_at.ensures.keeps (λ told pieces holds asked. c.in_ok-free_at.ensures.holds told pieces holds))
    (λ pieces told holds has. (first_blob c.args.first c.args.n pieces some has, other_blobs c.args.first c.args.n pieces some has))
    c.in_ok-free_at.ensures.cause c.in_ok-free_at.ensures.answers.keeps c.free_all.ensures.cause
