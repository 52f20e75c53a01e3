use Rattle.aria_cache.specs.PageState.{PageState}
use Rattle.aria_block.specs.Causes.{rows_file}
use Rattle.aria_block.proofs.Whole.{puts_row}
use Rattle.aria_block.proofs.storing.insert_row.Goals as goal

pub returns-clause-rows : goal.returns-clause-rows
returns-clause-rows g c = λ told is_row pieces rows holds is.
    let old : PageState = g.P.Pages.state c.args.pages.now in
    let new : PageState = g.P.Pages.state c.insert_pieces.new.pages in
    puts_row is_row c.args.row.now c.in_ok-places.places pieces rows (rows_file old c.args.slot) old new holds is (c.in_ok-places.ensures.put told pieces holds.data_file)

pub returns-clause-put : goal.returns-clause-put
returns-clause-put g c = c.in_ok-places.ensures.put
