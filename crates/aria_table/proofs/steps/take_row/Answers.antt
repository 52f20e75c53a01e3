use Rattle.std.proofs.Common.{◌≡◌, ℕ, Bool, List, refl, sym, ap, ◌∙◌, subst}
use Rattle.aria_page.specs.declared.group.Last.TheVariants.{RowDelete}
use Rattle.aria_cache.specs.PageState.{PageState}
use Rattle.aria_record.specs.Logged.{Logged}
use Rattle.aria_block.specs.Rows.{Kept}
use Rattle.aria_table.specs.Content.{Content, take_row}
use Rattle.aria_table.proofs.Undoing.{delete_row}
use Rattle.aria_table.proofs.Ending.{ended_one, content_moved}
use Rattle.aria_table.proofs.steps.take_row.Goals as goal

pub returns-in_ok-end-in-Ok-clause-ends : goal.returns-in_ok-end-in-Ok-clause-ends
returns-in_ok-end-in-Ok-clause-ends g c =
    ended_one g.P.Pages.tells g.P.Pages.logged g.P.Pages.ends g.P.Pages.state c.args.slot (RowDelete c.args.places c.args.row) c.args.pages.now c.group-group.new.self c.take_counted.new.pages c.end.new.self c.in_ok-end-in-Ok.field-0
    c.group-group.ensures.begins c.in-Ok.ensures.slots c.in-Ok.ensures.log (λ told log. c.in-Ok.ensures.applies told log) c.in_ok-end-in-Ok.ensures.ended
    (λ groups ends. g.met.P.Pages.ends_behind c.args.pages.now c.group-group.new.self c.end.new.self groups c.group-group.ensures.moves (g.met.P.Pages.ends_behind c.group-group.new.self c.take_counted.new.pages c.end.new.self groups c.in-Ok.ensures.moves ends))
    c.in_ok-end-in-Ok.ensures.bodies c.in_ok-end-in-Ok.ensures.pending

pub returns-in_ok-end-in-Ok-clause-content : goal.returns-in_ok-end-in-Ok-clause-content
returns-in_ok-end-in-Ok-clause-content g c = λ told is_row keys content held there fits some low.
    let old : PageState = g.P.Pages.state c.args.pages.now in
    let begun : PageState = g.P.Pages.state c.group-group.new.self in
    let mid : PageState = g.P.Pages.state c.take_counted.new.pages in
    let new : PageState = g.P.Pages.state c.end.new.self in
    let begins = c.group-group.ensures.begins in
    let row : Kept = record { places = c.args.places; row = c.args.row } in
    record {
      held = content_moved is_row keys c.args.slot mid new (take_row c.args.places content) c.in_ok-end-in-Ok.ensures.slots c.in_ok-end-in-Ok.ensures.counts (c.in_ok-end-in-Ok.ensures.bodies told)
          (c.in-Ok.ensures.content told is_row keys content c.args.row (content_moved is_row keys c.args.slot old begun content begins.rests.slots begins.rests.pages.counts begins.rests.pages.bodies held) there fits low);
      back = delete_row is_row keys row content held.data_file.tiled there some;
    }
