use Rattle.std.proofs.Common.{◌≡◌, ℕ, Bool, List, refl, sym, ap, ◌∙◌, subst}
use Rattle.std.specs.Map.{lookup}
use Rattle.aria_cache.specs.PageState.{PageState}
use Rattle.aria_table.specs.Content.{same_entry}
use Rattle.aria_table.proofs.Entering.{few}
use Rattle.aria_table.proofs.Departing.{there, departed_ok, cause_departs}
use Rattle.aria_table.proofs.steps.withdraw.Goals as goal

pub returns-clause-content : goal.returns-clause-content
returns-clause-content g c = λ told is_row keys content target held low found small.
    let old : PageState = g.P.Pages.state c.args.pages.now in
    let new : PageState = g.P.Pages.state c.remove.new.pages in
    let a = there c.args.entry.now target (held.walks c.args.key) (ap (lookup (same_entry c.args.entry.now)) (sym (held.walk c.args.key low)) ∙ found) in
    let f = few (held.walks c.args.key) (content.walks c.args.key) (held.walk c.args.key low) small in
    departed_ok c.remove.result is_row keys c.args.slot g.P.Pages.logged old new content c.args.key c.args.entry.now held low c.requires.key c.remove.ensures.slots (c.remove.ensures.inside told) c.remove.ensures.grows
    (c.remove.ensures.trees told keys held.walks low held.trees a f) (c.remove.ensures.header told keys held.walks held.trees.header low held.trees a f held.trees.file.there)

pub returns-clause-cause : goal.returns-clause-cause
returns-clause-cause g c =
    let old : PageState = g.P.Pages.state c.args.pages.now in
    cause_departs g.P.Pages.tells g.P.Pages.logged c.args.key c.args.slot 0 c.args.entry.now old (g.P.Pages.state c.remove.new.pages) _ c.remove.ensures.cause
