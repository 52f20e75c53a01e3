use Rattle.std.proofs.Common.{sym, ap, ◌∙◌}
use Rattle.aria_value.specs.Entry.{entry_bytes}
use Rattle.aria_cache.specs.PageState.{PageState}
use Rattle.aria_block.specs.Causes.{rows_file}
use Rattle.aria_key.specs.Reading.{keys_file}
use Rattle.aria_table.specs.Refusing.{unfit, unplaced, full}
use Rattle.aria_table.proofs.Ending.{content_moved}
use Rattle.aria_table.proofs.Refusals.{second_refuses, third_decides, full_moved}
use Rattle.aria_table.proofs.refusing.refuse_insert.Goals as goal

pub returns-then-is_some-2-clause-refusal : goal.returns-then-is_some-2-clause-refusal
returns-then-is_some-2-clause-refusal g c = λ told is_row keys content held some is.
    let d = c.args.definition.now in
    let old : PageState = g.P.Pages.state c.args.pages.now in
    let mid : PageState = g.P.Pages.state c.row_count.new.pages in
    let loads = c.in_ok-rows.ensures.loads in
    let count = c.in_ok-rows.ensures.count told is_row keys content held in
    let moved = content_moved is_row keys c.args.slot old mid content loads.slots loads.counts (loads.bodies told) held in
    second_refuses (unfit d c.args.row.now) (unplaced d content (entry_bytes d 0 c.args.row.now)) (full (old.counts (keys_file old c.args.slot)) (old.counts (rows_file old c.args.slot))) c.unfit-alone.result c.in_ok-beside.beside
    c.unfit-alone.ensures.refusal (sym c.is_some.ensures ∙ c.if-is_some.false) (c.in_ok-beside.ensures.refusal told is_row keys content moved some count ∙ ap (unplaced d content) is) (sym c.is_some-2.ensures ∙ c.if-is_some-2.true)

pub returns-clause-refusal : goal.returns-clause-refusal
returns-clause-refusal g c = λ told is_row keys content held some is.
    let d = c.args.definition.now in
    let old : PageState = g.P.Pages.state c.args.pages.now in
    let mid : PageState = g.P.Pages.state c.row_count.new.pages in
    let last : PageState = g.P.Pages.state c.unplaced.new.pages in
    let loads = c.in_ok-rows.ensures.loads in
    let later = c.in_ok-beside.ensures.loads in
    let count = c.in_ok-rows.ensures.count told is_row keys content held in
    let moved = content_moved is_row keys c.args.slot old mid content loads.slots loads.counts (loads.bodies told) held in
    third_decides (unfit d c.args.row.now) (unplaced d content (entry_bytes d 0 c.args.row.now)) (full (old.counts (keys_file old c.args.slot)) (old.counts (rows_file old c.args.slot))) c.unfit-alone.result c.in_ok-beside.beside c.full.result
    c.unfit-alone.ensures.refusal (sym c.is_some.ensures ∙ c.if-is_some.false) (c.in_ok-beside.ensures.refusal told is_row keys content moved some count ∙ ap (unplaced d content) is) (sym c.is_some-2.ensures ∙ c.if-is_some-2.false)
    (c.full.ensures ∙ full_moved c.args.slot mid last later.slots later.counts ∙ full_moved c.args.slot old mid loads.slots loads.counts)
