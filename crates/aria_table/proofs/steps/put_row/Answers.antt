use Rattle.std.proofs.Common.{◌≡◌, ℕ, Bool, List, refl, sym, ap, ◌∙◌, subst}
use Rattle.aria_page.specs.declared.group.Last.TheVariants.{RowInsert}
use Rattle.aria_cache.specs.PageState.{PageState}
use Rattle.aria_record.specs.Logged.{Logged}
use Rattle.aria_table.specs.Content.{Content}
use Rattle.aria_table.proofs.Ending.{ended_one, content_moved, steps_moved}
use Rattle.aria_table.proofs.steps.put_row.Goals as goal

pub returns-in_ok-end-in-Ok-clause-ends : goal.returns-in_ok-end-in-Ok-clause-ends
returns-in_ok-end-in-Ok-clause-ends g c =
    ended_one g.P.Pages.tells g.P.Pages.logged g.P.Pages.ends g.P.Pages.state c.args.slot (RowInsert c.in-Ok.places) c.args.pages.now c.group-group.new.self c.put_counted.new.pages c.end.new.self c.in_ok-end-in-Ok.field-0
    c.group-group.ensures.begins c.in-Ok.ensures.slots c.in-Ok.ensures.log (λ told log. c.in-Ok.ensures.applies told log) c.in_ok-end-in-Ok.ensures.ended
    (λ groups ends. g.met.P.Pages.ends_behind c.args.pages.now c.group-group.new.self c.end.new.self groups c.group-group.ensures.moves (g.met.P.Pages.ends_behind c.group-group.new.self c.put_counted.new.pages c.end.new.self groups c.in-Ok.ensures.moves ends))
    c.in_ok-end-in-Ok.ensures.bodies c.in_ok-end-in-Ok.ensures.pending

pub returns-in_ok-end-in-Ok-clause-content : goal.returns-in_ok-end-in-Ok-clause-content
returns-in_ok-end-in-Ok-clause-content g c = λ told is_row keys content held good low.
    let old : PageState = g.P.Pages.state c.args.pages.now in
    let begun : PageState = g.P.Pages.state c.group-group.new.self in
    let mid : PageState = g.P.Pages.state c.put_counted.new.pages in
    let new : PageState = g.P.Pages.state c.end.new.self in
    let begins = c.group-group.ensures.begins in
    steps_moved is_row keys c.args.slot _ content _ mid new c.in_ok-end-in-Ok.ensures.slots c.in_ok-end-in-Ok.ensures.counts (c.in_ok-end-in-Ok.ensures.bodies told)
    (c.in-Ok.ensures.content told is_row keys content (content_moved is_row keys c.args.slot old begun content begins.rests.slots begins.rests.pages.counts begins.rests.pages.bodies held) good low)
