use Rattle.std.proofs.Common.{◌≡◌, ℕ, ◌+◌, None, List, length, sym, ◌∙◌, subst}
use Rattle.std.specs.Prelude.{IfSome, OnOk}
use Rattle.std.proofs.lemmas.Result.{err_from_is_err_and}
use Rattle.aria_page.specs.declared.place.Places.{Places}
use Rattle.aria_host.specs.declared.file_name.FileName.{FileName}
use Rattle.aria_cache.specs.PageState.{PageState}
use Rattle.aria_cache.specs.Causes.{HasPagesCause}
use Rattle.aria_block.specs.declared.part_kind.PartKind.TheVariants as part
use Rattle.aria_block.specs.Causes.{rows_file, KeepsSound}
use Rattle.aria_block.specs.Pieces.{Pieces, head_size, tail_size, blob_count}
use Rattle.aria_block.specs.DataFile.{HoldsData}
use Rattle.aria_block.specs.Reading.{OfPieces}
use Rattle.aria_block.specs.Runs.{AreFree}
use Rattle.aria_block.specs.Storing.{with_blobs, with_tail, BlobsPut, TailPut, HeadPut}
use Rattle.aria_block.specs.PuttingBack.{TakesPartAt, CanPutBack}
use Rattle.aria_block.proofs.Causing.{keeps_on}
use Rattle.aria_block.proofs.ReadPages.{cause_asked}
use Rattle.aria_block.proofs.RowBack.{row_back, free_needs, tail_needs, head_needs}
use Rattle.aria_block.proofs.Stepping.{same_rows, slots_on, moved, pieces_step}
use Rattle.aria_block.proofs.putting_back.put_long_back.Goals as goal

pub returns-clause-put : goal.returns-clause-put
returns-clause-put g c = λ told pieces holds.
    let old : PageState = g.P.Pages.state c.args.pages.now in
    let mid : PageState = g.P.Pages.state c.put_blobs_back.new.pages in
    let low : PageState = g.P.Pages.state c.put_tail_back.new.pages in
    let new : PageState = g.P.Pages.state c.put_head_back.new.pages in
    let file : FileName = rows_file old c.args.slot in
    let count : ℕ = old.counts file in
    let row : List ℕ = c.args.row.now in
    let places : Places = c.args.places.now in
    let one : rows_file mid c.args.slot ≡ file = same_rows c.args.slot old mid c.in_ok-put_blobs_back.ensures.slots in
    let two : rows_file low c.args.slot ≡ file = same_rows c.args.slot mid low c.in_ok-put_tail_back.ensures.slots ∙ one in
    let counts : low.counts ≡ old.counts = c.in_ok-put_tail_back.ensures.counts ∙ c.in_ok-put_blobs_back.ensures.counts in
    let blobs : BlobsPut row places.blob count (mid.bodies file) pieces = c.in_ok-put_blobs_back.ensures.holds told pieces holds in
    let first : Pieces = with_blobs places.blob (blob_count (length row)) row pieces in
    let tail : TailPut row places.tail count (low.bodies file) first =
    moved c.args.slot mid old low (sym one) (sym c.in_ok-put_blobs_back.ensures.counts) (λ k b. TailPut row places.tail k b first)
    (c.in_ok-put_tail_back.ensures.holds told first (moved c.args.slot old mid mid one c.in_ok-put_blobs_back.ensures.counts (λ k b. HoldsData k b first) blobs.data_file)) in
    let second : Pieces = with_tail places.tail row first in
    row_back c.put_head_back.result row places count (mid.bodies file) (low.bodies file) (new.bodies file) pieces c.requires.may.blobs blobs tail
    (moved c.args.slot low old new (sym two) (sym counts) (λ k b. OnOk c.put_head_back.result (HeadPut row places k b second))
    (c.put_head_back.ensures.holds told second (moved c.args.slot old low low two counts (λ k b. HoldsData k b second) tail.data_file)))

pub returns-in_err-put_blobs_back-clause-cause : goal.returns-in_err-put_blobs_back-clause-cause
returns-in_err-put_blobs_back-clause-cause g c =
    let old : PageState = g.P.Pages.state c.args.pages.now in
    let mid : PageState = g.P.Pages.state c.put_blobs_back.new.pages in
    let file : FileName = rows_file old c.args.slot in
    let row : List ℕ = c.args.row.now in
    let places : Places = c.args.places.now in
    let p = err_from_is_err_and c.from_residual.result c.from_residual.ensures.1 in
    rw (p.1, p.2) (cause_asked g.P.Pages.tells g.P.Pages.logged (CanPutBack row places (old.counts file)) (AreFree (blob_count (length row)) places.blob) file old mid _
    (λ pieces can. free_needs row places c.args.slot pieces old c.requires.may.blobs can) c.in_err-put_blobs_back.ensures.cause)

pub returns-in_err-put_tail_back-clause-cause : goal.returns-in_err-put_tail_back-clause-cause
returns-in_err-put_tail_back-clause-cause g c =
    let old : PageState = g.P.Pages.state c.args.pages.now in
    let mid : PageState = g.P.Pages.state c.put_blobs_back.new.pages in
    let low : PageState = g.P.Pages.state c.put_tail_back.new.pages in
    let file : FileName = rows_file old c.args.slot in
    let row : List ℕ = c.args.row.now in
    let places : Places = c.args.places.now in
    let one : rows_file mid c.args.slot ≡ file = same_rows c.args.slot old mid c.in_ok-put_blobs_back.ensures.slots in
    let first : HasPagesCause (OfPieces g.P.Pages.tells g.P.Pages.logged (CanPutBack row places (old.counts file)) file old mid) old mid None =
    cause_asked g.P.Pages.tells g.P.Pages.logged (CanPutBack row places (old.counts file)) (AreFree (blob_count (length row)) places.blob) file old mid None
    (λ pieces can. free_needs row places c.args.slot pieces old c.requires.may.blobs can) c.in_ok-put_blobs_back.ensures.cause in
    let p = err_from_is_err_and c.from_residual-in_err-put_tail_back.result c.from_residual-in_err-put_tail_back.ensures.1 in
    rw (p.1, p.2) (pieces_step g.P.Pages.tells g.P.Pages.logged c.args.slot (CanPutBack row places (old.counts file))
    (λ pieces. IfSome places.tail (λ at. TakesPartAt part.Tail at (tail_size (length row)) (mid.counts (rows_file mid c.args.slot)) (mid.bodies (rows_file mid c.args.slot))))
    old mid low _ c.in_ok-put_blobs_back.ensures.slots c.in_ok-put_blobs_back.ensures.keeps
    (λ pieces told holds can. tail_needs row places c.args.slot pieces old c.requires.may.blobs can mid one c.in_ok-put_blobs_back.ensures.counts (c.in_ok-put_blobs_back.ensures.holds told pieces holds))
    first c.in_ok-put_blobs_back.ensures.answers.keeps c.in_err-put_tail_back.ensures.cause)

pub returns-clause-cause : goal.returns-clause-cause
returns-clause-cause g c =
    let old : PageState = g.P.Pages.state c.args.pages.now in
    let mid : PageState = g.P.Pages.state c.put_blobs_back.new.pages in
    let low : PageState = g.P.Pages.state c.put_tail_back.new.pages in
    let new : PageState = g.P.Pages.state c.put_head_back.new.pages in
    let file : FileName = rows_file old c.args.slot in
    let row : List ℕ = c.args.row.now in
    let places : Places = c.args.places.now in
    let one : rows_file mid c.args.slot ≡ file = same_rows c.args.slot old mid c.in_ok-put_blobs_back.ensures.slots in
    let two : rows_file low c.args.slot ≡ file = same_rows c.args.slot mid low c.in_ok-put_tail_back.ensures.slots ∙ one in
    let counts : low.counts ≡ old.counts = c.in_ok-put_tail_back.ensures.counts ∙ c.in_ok-put_blobs_back.ensures.counts in
    let first : HasPagesCause (OfPieces g.P.Pages.tells g.P.Pages.logged (CanPutBack row places (old.counts file)) file old mid) old mid None =
    cause_asked g.P.Pages.tells g.P.Pages.logged (CanPutBack row places (old.counts file)) (AreFree (blob_count (length row)) places.blob) file old mid None
    (λ pieces can. free_needs row places c.args.slot pieces old c.requires.may.blobs can) c.in_ok-put_blobs_back.ensures.cause in
    let second : HasPagesCause (OfPieces g.P.Pages.tells g.P.Pages.logged (CanPutBack row places (old.counts file)) file old low) old low None =
    pieces_step g.P.Pages.tells g.P.Pages.logged c.args.slot (CanPutBack row places (old.counts file))
    (λ pieces. IfSome places.tail (λ at. TakesPartAt part.Tail at (tail_size (length row)) (mid.counts (rows_file mid c.args.slot)) (mid.bodies (rows_file mid c.args.slot))))
    old mid low None c.in_ok-put_blobs_back.ensures.slots c.in_ok-put_blobs_back.ensures.keeps
    (λ pieces told holds can. tail_needs row places c.args.slot pieces old c.requires.may.blobs can mid one c.in_ok-put_blobs_back.ensures.counts (c.in_ok-put_blobs_back.ensures.holds told pieces holds))
    first c.in_ok-put_blobs_back.ensures.answers.keeps c.in_ok-put_tail_back.ensures.cause in
    pieces_step g.P.Pages.tells g.P.Pages.logged c.args.slot (CanPutBack row places (old.counts file))
    (λ pieces. TakesPartAt part.Head places.head (14 + head_size (length row)) (low.counts (rows_file low c.args.slot)) (low.bodies (rows_file low c.args.slot)))
    old low new _ (slots_on old mid low c.in_ok-put_blobs_back.ensures.slots c.in_ok-put_tail_back.ensures.slots)
    (keeps_on g.P.Pages.tells file old mid low c.in_ok-put_blobs_back.ensures.keeps (subst (λ (f : FileName). KeepsSound g.P.Pages.tells f mid low) one c.in_ok-put_tail_back.ensures.keeps))
    (λ pieces told holds can.
    let piecewise : Pieces = with_blobs places.blob (blob_count (length row)) row pieces in
    let blobs : BlobsPut row places.blob (old.counts file) (mid.bodies file) pieces = c.in_ok-put_blobs_back.ensures.holds told pieces holds in
    head_needs row places c.args.slot pieces old c.requires.may.blobs can low two counts
    (moved c.args.slot mid old low (sym one) (sym c.in_ok-put_blobs_back.ensures.counts) (λ k b. TailPut row places.tail k b piecewise)
    (c.in_ok-put_tail_back.ensures.holds told piecewise (moved c.args.slot old mid mid one c.in_ok-put_blobs_back.ensures.counts (λ k b. HoldsData k b piecewise) blobs.data_file))))
    second c.in_ok-put_tail_back.ensures.answers.keeps c.put_head_back.ensures.cause
