use Rattle.std.proofs.Common.{◌≡◌, Some, length, ◌+◌, ℕ, Bool, List, refl, sym, ap, ◌∙◌, subst}
use Rattle.std.specs.Map.{lookup}
use Rattle.aria_page.specs.declared.group.Last.TheVariants.{KeyDelete}
use Rattle.aria_cache.specs.PageState.{PageState}
use Rattle.aria_record.specs.Logged.{Logged}
use Rattle.aria_table.specs.Content.{Content, same_entry, take_entry}
use Rattle.aria_table.specs.Step.{HoldsContent, HasEntryIn}
use Rattle.aria_table.proofs.Undoing.{remove_entry_back}
use Rattle.aria_table.proofs.Ending.{ended_one, content_moved, cause_left, entry_moved}
use Rattle.aria_table.proofs.steps.take_entry.Goals as goal

pub returns-in_ok-end-in-Ok-clause-ends : goal.returns-in_ok-end-in-Ok-clause-ends
returns-in_ok-end-in-Ok-clause-ends g c =
    ended_one g.P.Pages.tells g.P.Pages.logged g.P.Pages.ends g.P.Pages.state c.args.slot (KeyDelete c.args.key c.args.target c.args.entry) c.args.pages.now c.group-group.new.self c.withdraw.new.pages c.end.new.self c.in_ok-end-in-Ok.field-0
    c.group-group.ensures.begins c.in-Ok.ensures.slots c.in-Ok.ensures.log (λ told log. c.in-Ok.ensures.applies told log) c.in_ok-end-in-Ok.ensures.ended
    (λ groups ends. g.met.P.Pages.ends_behind c.args.pages.now c.group-group.new.self c.end.new.self groups c.group-group.ensures.moves (g.met.P.Pages.ends_behind c.group-group.new.self c.withdraw.new.pages c.end.new.self groups c.in-Ok.ensures.moves ends))
    c.in_ok-end-in-Ok.ensures.bodies c.in_ok-end-in-Ok.ensures.pending

pub returns-in_ok-end-in-Ok-clause-content : goal.returns-in_ok-end-in-Ok-clause-content
returns-in_ok-end-in-Ok-clause-content g c = λ told is_row keys content held low found small rises.
    let old : PageState = g.P.Pages.state c.args.pages.now in
    let begun : PageState = g.P.Pages.state c.group-group.new.self in
    let mid : PageState = g.P.Pages.state c.withdraw.new.pages in
    let new : PageState = g.P.Pages.state c.end.new.self in
    let begins = c.group-group.ensures.begins in
    let at : HoldsContent is_row keys c.args.slot begun content = content_moved is_row keys c.args.slot old begun content begins.rests.slots begins.rests.pages.counts begins.rests.pages.bodies held in
    let same : c.as_slice.result.now ≡ c.args.entry = c.as_slice.ensures in
    let left : HoldsContent is_row keys c.args.slot mid (take_entry c.args.key c.args.entry content) =
    subst (λ (e : List ℕ). lookup (same_entry e) (content.walks c.args.key) ≡ Some c.args.target → HoldsContent is_row keys c.args.slot mid (take_entry c.args.key e content)) same
    (λ here. c.in-Ok.ensures.content told is_row keys content c.args.target at low here small) found in
    record {
      held = content_moved is_row keys c.args.slot mid new (take_entry c.args.key c.args.entry content) c.in_ok-end-in-Ok.ensures.slots c.in_ok-end-in-Ok.ensures.counts (c.in_ok-end-in-Ok.ensures.bodies told) left;
      back = remove_entry_back keys c.args.key c.args.entry c.args.target content low found rises;
    }

pub returns-in-Err-clause-cause : goal.returns-in-Err-clause-cause
returns-in-Err-clause-cause g c =
    let old : PageState = g.P.Pages.state c.args.pages.now in
    let begun : PageState = g.P.Pages.state c.group-group.new.self in
    let mid : PageState = g.P.Pages.state c.withdraw.new.pages in
    let new : PageState = g.P.Pages.state c.leave.new.self in
    let begins = c.group-group.ensures.begins in
    cause_left g.P.Pages.tells g.P.Pages.logged (HasEntryIn c.args.key c.as_slice.result.now c.args.slot begun) (HasEntryIn c.args.key c.args.entry c.args.slot old) c.args.slot (length c.args.entry + 212021) old begun mid new (Some c.in-Err.fault) begins c.leave.ensures.leaves
    (λ has. subst (λ (e : List ℕ). HasEntryIn c.args.key e c.args.slot begun) (sym c.as_slice.ensures) (entry_moved c.args.key c.args.entry c.args.slot old begun begins.rests.slots begins.rests.pages.counts begins.rests.pages.bodies has))
    c.in-Err.ensures.cause
