use Rattle.std.proofs.Common.{◌∙◌, ℕ, true, Bor, Option, ap, sym, refl}
use Rattle.std.specs.BTreeMap.{BTreeMap, get}
use Rattle.std.specs.Option.{option_and_then, option_copied}
use Rattle.std.specs.Ordering.{nat_cmp}
use Rattle.aria_page.specs.declared.lsn.Lsn.{Lsn}
use Rattle.aria_recovery.specs.Noted.{last_edit}
use Rattle.aria_pager.specs.Resting.{is_edited}
use Rattle.aria_pager.proofs.Resting.{untold_redone}
use Rattle.aria_pager.proofs.Rested.{edited_of, redone_by}
use Rattle.aria_pager.proofs.at_rest.is_redone.Goals as goal

pub returns-in-Some-clause-redone : goal.returns-in-Some-clause-redone
returns-in-Some-clause-redone g c = λ told checkpoint groups has rises.
    redone_by c.are_past.result (g.H.Host.state c.args.host.now).folder groups c.args.name.now c.args.part c.in-Some.pages.now rises
    (λ n. ap (λ (o : Option (Bor (BTreeMap ℕ Lsn))). option_and_then (λ p. get nat_cmp p n) (option_copied o)) (sym c.in-Some.is) ∙ c.pages.ensures checkpoint groups has n)
    (c.are_past.ensures.past told) c.are_past.ensures.ordered

pub returns-in-Some-clause-edited : goal.returns-in-Some-clause-edited
returns-in-Some-clause-edited g c = λ checkpoint groups has.
    (c.are_past.ensures.cause (is_edited groups) (λ n there. edited_of (last_edit c.args.name.now c.args.part n groups) (get nat_cmp c.in-Some.pages.now n)
    (ap (λ (o : Option (Bor (BTreeMap ℕ Lsn))). option_and_then (λ p. get nat_cmp p n) (option_copied o)) (sym c.in-Some.is) ∙ c.pages.ensures checkpoint groups has n) there)).only

pub returns-in-Some-clause-cause : goal.returns-in-Some-clause-cause
returns-in-Some-clause-cause g c = c.are_past.ensures.cause (λ s. true) (λ n there. refl)

pub returns-in-None-clause-redone : goal.returns-in-None-clause-redone
returns-in-None-clause-redone g c = λ told checkpoint groups has rises. (
  λ on. untold_redone (g.H.Host.state c.args.host.now).folder groups c.args.name.now c.args.part rises
      (λ n. ap (λ (o : Option (Bor (BTreeMap ℕ Lsn))). option_and_then (λ p. get nat_cmp p n) (option_copied o)) (sym c.in-None.is) ∙ c.pages.ensures checkpoint groups has n),
  λ redone. refl,
)
