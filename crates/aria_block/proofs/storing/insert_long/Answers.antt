use Rattle.std.proofs.Common.{◌≡◌, ℕ, ◌+◌, None, List, length, sym, ap, ◌∙◌, arith, subst}
use Rattle.std.specs.Prelude.{IfOk, OnOk}
use Rattle.std.proofs.lemmas.Result.{err_from_is_err_and}
use Rattle.aria_host.specs.declared.file_name.FileName.{FileName}
use Rattle.aria_cache.specs.PageState.{PageState, Counts}
use Rattle.aria_block.specs.declared.part_kind.PartKind.TheVariants as part
use Rattle.aria_block.specs.Causes.{rows_file, HoldsStill}
use Rattle.aria_block.specs.Pieces.{Pieces, head_size, tail_size, blob_count}
use Rattle.aria_block.specs.DataFile.{HoldsData}
use Rattle.aria_block.specs.Runs.{GrowsForPart}
use Rattle.aria_block.specs.Storing.{with_blobs, with_tail, BlobsPut, TailPut, HeadPut}
use Rattle.aria_block.proofs.Causing.{rows_cause}
use Rattle.aria_block.proofs.Sizes.{LongRow, long_row, long_bytes}
use Rattle.aria_block.proofs.Stepping.{same_rows, rows_step}
use Rattle.aria_block.proofs.Whole.{GrownFor, long_on_ok}
use Rattle.aria_block.proofs.storing.insert_long.Goals as goal

pub returns-clause-put : goal.returns-clause-put
returns-clause-put g c = λ told pieces holds.
    let old : PageState = g.P.Pages.state c.args.pages.now in
    let mid : PageState = g.P.Pages.state c.insert_blobs.new.pages in
    let low : PageState = g.P.Pages.state c.insert_tail.new.pages in
    let new : PageState = g.P.Pages.state c.insert_head.new.pages in
    let file : FileName = rows_file old c.args.slot in
    let row : List ℕ = c.args.row.now in
    let n : ℕ = blob_count (length row) in
    let one : rows_file mid c.args.slot ≡ file = same_rows c.args.slot old mid c.in_ok-blob.ensures.slots in
    let two : rows_file low c.args.slot ≡ file = same_rows c.args.slot mid low c.in_ok-tail.ensures.slots ∙ one in
    let blobs : BlobsPut row c.in_ok-blob.blob (mid.counts file) (mid.bodies file) pieces = c.in_ok-blob.ensures.holds told pieces holds in
    let first : Pieces = with_blobs c.in_ok-blob.blob n row pieces in
    let tail : TailPut row c.in_ok-tail.tail (low.counts file) (low.bodies file) first =
    subst (λ (f : FileName). TailPut row c.in_ok-tail.tail (low.counts f) (low.bodies f) first) one
    (c.in_ok-tail.ensures.holds told first (subst (λ (f : FileName). HoldsData (mid.counts f) (mid.bodies f) first) (sym one) blobs.data_file)) in
    let second : Pieces = with_tail c.in_ok-tail.tail row first in
    let head : IfOk c.insert_head.result (λ places. HeadPut row places (new.counts file) (new.bodies file) second) =
    subst (λ (f : FileName). IfOk c.insert_head.result (λ places. HeadPut row places (new.counts f) (new.bodies f) second)) two
    (c.insert_head.ensures.holds told second (subst (λ (f : FileName). HoldsData (low.counts f) (low.bodies f) second) (sym two) tail.data_file)) in
    let sizes : LongRow (length row) = long_row (length row) c.requires.long c.requires.few in
    let grown : GrownFor row file old mid low = record {
      for_blobs = c.in_ok-blob.ensures.needed told;
      no_blobs = λ none. absurd (omega (arith, sizes.some, none));
      for_tail = subst (λ (f : FileName). GrowsForPart part.Tail (tail_size (length row)) f mid low) one (c.in_ok-tail.ensures.needed told);
      no_tail = λ none. ap (λ (counts : Counts). counts file) (c.in_ok-tail.ensures.none none);
    } in
    long_on_ok c.insert_head.result row c.in_ok-blob.blob c.blob_count-blobs.result c.in_ok-tail.tail pieces file old mid low new c.blob_count-blobs.ensures.is blobs tail grown c.insert_head.ensures.places head
    (subst (λ (f : FileName). OnOk c.insert_head.result (GrowsForPart part.Head (14 + head_size (length row)) f low new)) two (c.insert_head.ensures.needed told))

pub returns-in_err-tail-clause-cause : goal.returns-in_err-tail-clause-cause
returns-in_err-tail-clause-cause g c =
    let old : PageState = g.P.Pages.state c.args.pages.now in
    let mid : PageState = g.P.Pages.state c.insert_blobs.new.pages in
    let low : PageState = g.P.Pages.state c.insert_tail.new.pages in
    let file : FileName = rows_file old c.args.slot in
    let still : HoldsStill g.P.Pages.tells file old mid = record { data_file = λ told pieces holds. (with_blobs c.in_ok-blob.blob (blob_count (length c.args.row.now)) c.args.row.now pieces, (c.in_ok-blob.ensures.holds told pieces holds).data_file) } in
    let p = err_from_is_err_and c.from_residual-in_err-tail.result c.from_residual-in_err-tail.ensures.1 in
    rw (p.1, p.2) (rows_step g.P.Pages.tells g.P.Pages.logged c.args.slot old mid low _ c.in_ok-blob.ensures.slots c.in_ok-blob.ensures.keeps still
    (rows_cause g.P.Pages.tells g.P.Pages.logged file old mid None c.in_ok-blob.ensures.cause) c.in_ok-blob.ensures.answers.keeps c.in_err-tail.ensures.cause)

pub returns-clause-cause : goal.returns-clause-cause
returns-clause-cause g c =
    let old : PageState = g.P.Pages.state c.args.pages.now in
    let mid : PageState = g.P.Pages.state c.insert_blobs.new.pages in
    let low : PageState = g.P.Pages.state c.insert_tail.new.pages in
    let new : PageState = g.P.Pages.state c.insert_head.new.pages in
    let file : FileName = rows_file old c.args.slot in
    let row : List ℕ = c.args.row.now in
    let one : rows_file mid c.args.slot ≡ file = same_rows c.args.slot old mid c.in_ok-blob.ensures.slots in
    let still_mid : HoldsStill g.P.Pages.tells file old mid = record { data_file = λ told pieces holds. (with_blobs c.in_ok-blob.blob (blob_count (length row)) row pieces, (c.in_ok-blob.ensures.holds told pieces holds).data_file) } in
    let still_low : HoldsStill g.P.Pages.tells (rows_file mid c.args.slot) mid low = record { data_file = λ told pieces holds. (with_tail c.in_ok-tail.tail row pieces, (c.in_ok-tail.ensures.holds told pieces holds).data_file) } in
    let last = rows_step g.P.Pages.tells g.P.Pages.logged c.args.slot mid low new _ c.in_ok-tail.ensures.slots c.in_ok-tail.ensures.keeps still_low
    c.in_ok-tail.ensures.cause c.in_ok-tail.ensures.answers.keeps c.insert_head.ensures.cause in
    rows_step g.P.Pages.tells g.P.Pages.logged c.args.slot old mid new _ c.in_ok-blob.ensures.slots c.in_ok-blob.ensures.keeps still_mid
    (rows_cause g.P.Pages.tells g.P.Pages.logged file old mid None c.in_ok-blob.ensures.cause) c.in_ok-blob.ensures.answers.keeps last

pub returns-in_err-blob-clause-spends : goal.returns-in_err-blob-clause-spends
returns-in_err-blob-clause-spends g c =
    let most = long_bytes (length c.args.row.now) c.requires.long c.requires.few in
    let one = c.in_err-blob.ensures.spends in
    record { touched = omega (arith, one.touched); made = omega (arith, one.made); bytes = omega (arith, one.bytes, most) }

pub returns-in_err-tail-clause-spends : goal.returns-in_err-tail-clause-spends
returns-in_err-tail-clause-spends g c =
    let most = long_bytes (length c.args.row.now) c.requires.long c.requires.few in
    let one = c.in_ok-blob.ensures.spends in
    let two = c.in_err-tail.ensures.spends in
    record { touched = omega (arith, one.touched, two.touched); made = omega (arith, one.made, two.made); bytes = omega (arith, one.bytes, two.bytes, most) }

pub returns-clause-spends : goal.returns-clause-spends
returns-clause-spends g c =
    let most = long_bytes (length c.args.row.now) c.requires.long c.requires.few in
    let one = c.in_ok-blob.ensures.spends in
    let two = c.in_ok-tail.ensures.spends in
    let three = c.insert_head.ensures.spends in
    record { touched = omega (arith, one.touched, two.touched, three.touched); made = omega (arith, one.made, two.made, three.made); bytes = omega (arith, one.bytes, two.bytes, three.bytes, most) }
