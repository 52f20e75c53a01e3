use Rattle.std.proofs.Common.{◌≡◌, ℕ, Bool, List, refl, sym, ap, ◌∙◌, subst}
use Rattle.std.specs.Map.{lookup}
use Rattle.aria_cache.specs.PageState.{PageState}
use Rattle.aria_table.specs.Content.{same_entry}
use Rattle.aria_table.proofs.Entering.{absent, few, entered_ok, cause_lacks}
use Rattle.aria_table.proofs.steps.enter.Goals as goal

pub returns-clause-content : goal.returns-clause-content
returns-clause-content g c = λ told is_row keys content held low none small.
    let old : PageState = g.P.Pages.state c.args.pages.now in
    let new : PageState = g.P.Pages.state c.insert.new.pages in
    let a = absent c.args.entry.now (held.walks c.args.key) (ap (lookup (same_entry c.args.entry.now)) (sym (held.walk c.args.key low)) ∙ none) in
    let f = few (held.walks c.args.key) (content.walks c.args.key) (held.walk c.args.key low) small in
    entered_ok c.insert.result is_row keys c.args.slot g.P.Pages.logged old new content c.args.key c.args.target c.args.entry.now held low c.requires.key none c.insert.ensures.slots (c.insert.ensures.inside told) c.insert.ensures.grows
    (c.insert.ensures.trees told keys held.walks low held.trees a f) (c.insert.ensures.header told keys held.walks held.trees.header low held.trees a f held.trees.file.there)

pub returns-clause-cause : goal.returns-clause-cause
returns-clause-cause g c =
    let old : PageState = g.P.Pages.state c.args.pages.now in
    cause_lacks g.P.Pages.tells g.P.Pages.logged c.args.key c.args.slot 0 c.args.entry.now old (g.P.Pages.state c.insert.new.pages) _ c.insert.ensures.cause
