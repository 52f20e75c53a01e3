use Rattle.std.proofs.Common.{ℕ, List, sym, subst}
use Rattle.aria_keypage.specs.Change.{IsBody}
use Rattle.aria_page.specs.declared.group.RedoKind.TheVariants.{Index}
use Rattle.aria_key.proofs.Later.{written_whole}
use Rattle.aria_key.proofs.root.write_body.Goals as goal

pub returns-clause-written : goal.returns-clause-written
returns-clause-written g c = λ t content is some.
    written_whole c.edit_page.result g.P.Pages.logged Index c.args.slot c.args.page c.as_slice.result.now content (g.P.Pages.state c.args.pages.now) (g.P.Pages.state c.edit_page.new.pages) (c.edit_page.ensures.edits t) (subst (λ (b : List ℕ). IsBody b content) (sym c.as_slice.ensures) is) some
