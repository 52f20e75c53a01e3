use Rattle.std.proofs.Common.{◌≡◌, ◌∙◌, ℕ, Option, None, Some, ap, sym, subst, refl}
use Rattle.aria_pager.specs.declared.page_store.PageStore.{PageStore}
use Rattle.aria_pager.specs.Pager.{known}
use Rattle.aria_pager.specs.Filing.{Leaves, with_tables}
use Rattle.aria_pager.proofs.Forgetting.{knows_without}
use Rattle.aria_pager.proofs.page_store.PageStore.forget.Goals as goal

pub returns-in-Some-Some-clause-forgets : goal.returns-in-Some-Some-clause-forgets
returns-in-Some-Some-clause-forgets c =
    let store = c.args.self.now in
    let name = c.args.name.now in
    let was : known store name ≡ Some (Some c.in-Some-Some.n) = sym c.remove.ensures.value ∙ c.in-Some-Some.is ∙ ap Some c.in-Some-Some.field-0-is in
    record {
      knows = λ q. ap (λ (v : PageStore). known v q) c.leave_slot.ensures.rest ∙ knows_without name store.tables c.remove.new.self c.remove.ensures.updates q;
      leaves = subst (λ (o : Option (Option ℕ)). Leaves o store c.leave_slot.new.self) (sym was) (record { held = c.leave_slot.ensures.leaves.held; pins = c.leave_slot.ensures.leaves.pins; slots = c.leave_slot.ensures.leaves.slots });
    }

pub returns-in-Some-None-clause-forgets : goal.returns-in-Some-None-clause-forgets
returns-in-Some-None-clause-forgets c =
    let store = c.args.self.now in
    let name = c.args.name.now in
    let was : known store name ≡ Some None = sym c.remove.ensures.value ∙ c.in-Some-None.is ∙ ap Some c.in-Some-None.field-0-is in
    record {
      knows = knows_without name store.tables c.remove.new.self c.remove.ensures.updates;
      leaves = subst (λ (o : Option (Option ℕ)). Leaves o store (with_tables store store.frames store.slots c.remove.new.self)) (sym was) (refl, refl);
    }
