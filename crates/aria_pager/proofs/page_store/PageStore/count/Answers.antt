use Rattle.std.proofs.Common.{◌∙◌, ◌^◌, ◌≤◌, ap, sym, subst}
use Rattle.aria_pager.specs.declared.slot.FilePages.{FilePages}
use Rattle.aria_pager.proofs.Lending.{count_slot, count_most}
use Rattle.aria_pager.proofs.page_store.PageStore.count.Goals as goal

pub returns-in-Some-clause-count : goal.returns-in-Some-clause-count
returns-in-Some-clause-count c = ap (λ (p : FilePages). p.pages) c.pages.ensures ∙ count_slot c.args.self.now c.args.slot c.args.part c.in-Some.slot c.requires.tidy c.requires.open (sym c.in-Some.ensures)

pub returns-in-Some-clause-most : goal.returns-in-Some-clause-most
returns-in-Some-clause-most c = subst (λ (p : FilePages). p.pages ≤ 2 ^ 31) (sym c.pages.ensures) (count_most c.args.self.now c.args.slot c.args.part c.in-Some.slot c.requires.tidy (sym c.in-Some.ensures))
