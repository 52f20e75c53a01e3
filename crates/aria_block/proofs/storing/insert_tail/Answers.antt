use Rattle.std.proofs.Common.{◌<◌, length, arith}
use Rattle.std.proofs.lemmas.Bool.{lt-ltb}
use Rattle.aria_cache.specs.PageState.{PageState}
use Rattle.aria_block.specs.Causes.{rows_file}
use Rattle.aria_block.specs.Pieces.{tail_size}
use Rattle.aria_block.proofs.Stored.{tail_put}
use Rattle.aria_block.proofs.storing.insert_tail.Goals as goal

pub returns-clause-holds : goal.returns-clause-holds
returns-clause-holds g c = λ told pieces holds.
    let old : PageState = g.P.Pages.state c.args.pages.now in
    let new : PageState = g.P.Pages.state c.insert_part.new.pages in
    let some : 0 < tail_size (length c.args.row.now) = omega (arith, c.if-len-eq0.false, c.last_bytes-bytes.ensures.len) in
    tail_put c.args.row.now c.last_bytes-bytes.result.now c.in_ok-place.place.page c.in_ok-place.place.slot (new.counts (rows_file old c.args.slot)) (new.bodies (rows_file old c.args.slot)) pieces c.last_bytes-bytes.ensures.is
    (lt-ltb 0 (tail_size (length c.args.row.now)) some) (c.in_ok-place.ensures.holds told pieces holds)
