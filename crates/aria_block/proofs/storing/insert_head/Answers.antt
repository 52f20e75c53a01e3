use Rattle.std.proofs.Common.{◌∙◌}
use Rattle.aria_page.specs.declared.place.Places.{Places}
use Rattle.aria_cache.specs.PageState.{PageState}
use Rattle.aria_block.specs.Causes.{rows_file}
use Rattle.aria_block.proofs.Stored.{head_put}
use Rattle.aria_block.proofs.storing.insert_head.Goals as goal

pub returns-clause-holds : goal.returns-clause-holds
returns-clause-holds g c = λ told pieces holds.
    let new : PageState = g.P.Pages.state c.insert_part.new.pages in
    let places : Places = record { head = c.in_ok-head.head; tail = c.args.tail; blob = c.args.blob; blobs = c.args.blobs } in
    head_put c.args.row.now c.as_slice.result.now places (new.counts (rows_file (g.P.Pages.state c.args.pages.now) c.args.slot)) (new.bodies (rows_file (g.P.Pages.state c.args.pages.now) c.args.slot)) pieces (c.as_slice.ensures.value ∙ c.head_bytes-bytes.ensures.is c.in_ok-head.head)
    (c.in_ok-head.ensures.holds told pieces holds)
