use Rattle.std.proofs.Common.{refl, ◌≡◌, ◌∙◌, ap, sym, subst, ℕ, List, Option, Some, false}
use Rattle.std.specs.Prelude.{IsTrue, is_some}
use Rattle.aria_host.specs.MemHost.{mem_state, mem_only_now}
use Rattle.aria_pager.specs.declared.page_store.PageStore.{PageStore}
use Rattle.aria_pager.specs.PageStore.{name_at}
use Rattle.aria_pager.specs.Laws.{stands_stays}
use Rattle.aria_pager.proofs.Paging.{stays_group, stays_but}
use Rattle.aria_pager.proofs.Usable.{rests_end}
use Rattle.aria_pager.proofs.tests.put.Goals as goal

pub edit_kept-requires-clause-stands : goal.edit_kept-requires-clause-stands
edit_kept-requires-clause-stands c = λ told. stands_stays _ _ _ _ c.slot_of.ensures.rests.stands (stays_group _ c.begin.new.self c.begin.new.self.frames c.begin.new.self.writer _ (λ f b left. mem_only_now c.slot_of.new.host f b refl left) c.slot_of.ensures.rests.tidy c.slot_of.ensures.rests.idle c.begin.ensures.entries c.begin.ensures.cache c.begin.ensures.pins c.begin.ensures.rest)

pub end_kept-requires-clause-stands : goal.end_kept-requires-clause-stands
end_kept-requires-clause-stands c = λ told. stands_stays _ _ _ _ (stands_stays _ _ _ _ c.slot_of.ensures.rests.stands (stays_group _ c.begin.new.self c.begin.new.self.frames c.begin.new.self.writer _ (λ f b left. mem_only_now c.slot_of.new.host f b refl left) c.slot_of.ensures.rests.tidy c.slot_of.ensures.rests.idle c.begin.ensures.entries c.begin.ensures.cache c.begin.ensures.pins c.begin.ensures.rest)) (c.edit_kept.ensures.moves told)

pub end_kept-requires-clause-open : goal.end_kept-requires-clause-open
end_kept-requires-clause-open c =
    let n = c.in_ok-slot.slot in
    let is : name_at c.edit_kept.new.self n ≡ Some c.args.name.now = ap (λ (f : ℕ → Option (List ℕ)). f n) c.edit_kept.ensures.same.slots ∙ ap (λ (v : PageStore). name_at v n) c.begin.ensures.rest ∙ c.in_ok-slot.ensures.named in
    subst (λ (o : Option (List ℕ)). IsTrue (is_some o)) (sym is) refl

pub returns-in-Ok : goal.returns-in-Ok
returns-in-Ok c =
    let n = c.in_ok-slot.slot in
    let is : name_at c.edit_kept.new.self n ≡ Some c.args.name.now = ap (λ (f : ℕ → Option (List ℕ)). f n) c.edit_kept.ensures.same.slots ∙ ap (λ (v : PageStore). name_at v n) c.begin.ensures.rest ∙ c.in_ok-slot.ensures.named in
    let stood = stands_stays _ _ _ _ (stands_stays _ _ _ _ c.slot_of.ensures.rests.stands (stays_group _ c.begin.new.self c.begin.new.self.frames c.begin.new.self.writer _ (λ f b left. mem_only_now c.slot_of.new.host f b refl left) c.slot_of.ensures.rests.tidy c.slot_of.ensures.rests.idle c.begin.ensures.entries c.begin.ensures.cache c.begin.ensures.pins c.begin.ensures.rest)) (c.edit_kept.ensures.moves refl) in
    rests_end _ _ _ _ c.args.name.now n _ c.end_kept.result stood (c.end_kept.ensures.stays refl) (c.end_kept.ensures.ends refl) is c.end_kept.ensures.tidy (ap (λ (v : PageStore). v.in_group) c.end_kept.ensures.rest)

pub returns-in-Err : goal.returns-in-Err
returns-in-Err c =
    let store = c.edit_kept.new.self in
    let stood = stands_stays _ _ _ _ (stands_stays _ _ _ _ c.slot_of.ensures.rests.stands (stays_group _ c.begin.new.self c.begin.new.self.frames c.begin.new.self.writer _ (λ f b left. mem_only_now c.slot_of.new.host f b refl left) c.slot_of.ensures.rests.tidy c.slot_of.ensures.rests.idle c.begin.ensures.entries c.begin.ensures.cache c.begin.ensures.pins c.begin.ensures.rest)) (c.edit_kept.ensures.moves refl) in
    record {
      tidy = c.leave.ensures.tidy;
      stands = stands_stays store c.leave.new.self _ _ stood (stays_but store c.leave.new.self false store.made store.lent store.kept _ (λ f b left. mem_only_now c.edit_kept.new.host f b refl left) (λ none. none) c.leave.ensures.rest);
      idle = ap (λ (v : PageStore). v.in_group) c.leave.ensures.rest;
    }
