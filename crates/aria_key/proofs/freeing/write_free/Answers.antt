use Rattle.std.proofs.Common.{ℕ, List, sym, subst}
use Rattle.aria_page.specs.declared.group.RedoKind.TheVariants.{Index}
use Rattle.aria_key.specs.Merging.{IsFreeBody}
use Rattle.aria_key.proofs.Freed.{written_free}
use Rattle.aria_key.proofs.freeing.write_free.Goals as goal

pub returns-clause-freed : goal.returns-clause-freed
returns-clause-freed g c = λ t some.
    written_free c.edit_page.result g.P.Pages.logged Index c.args.slot c.args.page c.args.next c.as_slice.result.now (g.P.Pages.state c.args.pages.now) (g.P.Pages.state c.edit_page.new.pages) (c.edit_page.ensures.edits t) (subst (λ (b : List ℕ). IsFreeBody c.args.next b) (sym c.as_slice.ensures) c.requires.body) some
