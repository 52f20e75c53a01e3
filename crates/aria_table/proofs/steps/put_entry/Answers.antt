use Rattle.std.proofs.Common.{◌≡◌, None, ℕ, Bool, List, refl, sym, ap, ◌∙◌, subst}
use Rattle.aria_page.specs.declared.group.Last.TheVariants.{KeyInsert}
use Rattle.aria_cache.specs.PageState.{PageState}
use Rattle.aria_record.specs.Logged.{Logged}
use Rattle.std.specs.Map.{lookup}
use Rattle.aria_table.specs.Content.{Content, same_entry, put_entry}
use Rattle.aria_table.specs.Step.{HoldsContent}
use Rattle.aria_table.proofs.Undoing.{insert_entry_back}
use Rattle.aria_table.proofs.Ending.{ended_one, content_moved}
use Rattle.aria_table.proofs.steps.put_entry.Goals as goal

pub returns-in_ok-end-in-Ok-clause-ends : goal.returns-in_ok-end-in-Ok-clause-ends
returns-in_ok-end-in-Ok-clause-ends g c =
    ended_one g.P.Pages.tells g.P.Pages.logged g.P.Pages.ends g.P.Pages.state c.args.slot (KeyInsert c.args.key c.args.target c.args.entry) c.args.pages.now c.group-group.new.self c.enter.new.pages c.end.new.self c.in_ok-end-in-Ok.field-0
    c.group-group.ensures.begins c.in-Ok.ensures.slots c.in-Ok.ensures.log (λ told log. c.in-Ok.ensures.applies told log) c.in_ok-end-in-Ok.ensures.ended
    (λ groups ends. g.met.P.Pages.ends_behind c.args.pages.now c.group-group.new.self c.end.new.self groups c.group-group.ensures.moves (g.met.P.Pages.ends_behind c.group-group.new.self c.enter.new.pages c.end.new.self groups c.in-Ok.ensures.moves ends))
    c.in_ok-end-in-Ok.ensures.bodies c.in_ok-end-in-Ok.ensures.pending

pub returns-in_ok-end-in-Ok-clause-content : goal.returns-in_ok-end-in-Ok-clause-content
returns-in_ok-end-in-Ok-clause-content g c = λ told is_row keys content held low none small.
    let old : PageState = g.P.Pages.state c.args.pages.now in
    let begun : PageState = g.P.Pages.state c.group-group.new.self in
    let mid : PageState = g.P.Pages.state c.enter.new.pages in
    let new : PageState = g.P.Pages.state c.end.new.self in
    let begins = c.group-group.ensures.begins in
    let at : HoldsContent is_row keys c.args.slot begun content = content_moved is_row keys c.args.slot old begun content begins.rests.slots begins.rests.pages.counts begins.rests.pages.bodies held in
    let same : c.as_slice.result.now ≡ c.args.entry = c.as_slice.ensures in
    let there : HoldsContent is_row keys c.args.slot mid (put_entry c.args.key c.args.entry c.args.target content) =
    subst (λ (e : List ℕ). lookup (same_entry e) (content.walks c.args.key) ≡ None → HoldsContent is_row keys c.args.slot mid (put_entry c.args.key e c.args.target content)) same
    (λ absent. c.in-Ok.ensures.content told is_row keys content at low absent small) none in
    record {
      held = content_moved is_row keys c.args.slot mid new (put_entry c.args.key c.args.entry c.args.target content) c.in_ok-end-in-Ok.ensures.slots c.in_ok-end-in-Ok.ensures.counts (c.in_ok-end-in-Ok.ensures.bodies told) there;
      back = insert_entry_back keys c.args.key c.args.entry c.args.target content low none;
    }
