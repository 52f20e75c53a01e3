use Rattle.std.proofs.Common.{◌≤◌, ℕ, List, length, arith}
use Rattle.aria_host.specs.declared.file_name.FileName.{FileName}
use Rattle.aria_cache.specs.PageState.{PageState}
use Rattle.aria_block.specs.Causes.{rows_file}
use Rattle.aria_block.specs.Pieces.{blob_count}
use Rattle.aria_block.specs.Storing.{with_blobs}
use Rattle.aria_block.proofs.Sizes.{short_bytes}
use Rattle.aria_block.proofs.Whole.{short_holds, short_on_ok}
use Rattle.aria_block.proofs.storing.insert_pieces.Goals as goal

pub returns-clause-put : goal.returns-clause-put
returns-clause-put g c = λ told pieces holds.
    let old : PageState = g.P.Pages.state c.args.pages.now in
    let new : PageState = g.P.Pages.state c.insert_head.new.pages in
    let file : FileName = rows_file old c.args.slot in
    let row : List ℕ = c.args.row.now in
    let short : length row ≤ 5986 = omega (arith, c.if-row-gt-WHOLE_MAX.false) in
    short_on_ok row short pieces file old holds c.insert_head.result new c.insert_head.ensures.places
    (c.insert_head.ensures.holds told (with_blobs 0 (blob_count (length row)) row pieces) (short_holds row short pieces file old holds)) (c.insert_head.ensures.needed told)

pub returns-clause-spends : goal.returns-clause-spends
returns-clause-spends g c =
    let short : length c.args.row.now ≤ 5986 = omega (arith, c.if-row-gt-WHOLE_MAX.false) in
    let most = short_bytes (length c.args.row.now) short in
    let one = c.insert_head.ensures.spends in
    record { touched = omega (arith, one.touched); made = omega (arith, one.made); bytes = omega (arith, one.bytes, most) }
