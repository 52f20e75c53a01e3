use Rattle.std.proofs.Common.{◌∙◌, ap, sym}
use Rattle.aria_pager.specs.PageStore.{set_at}
use Rattle.aria_pager.proofs.Forgetting.{freed_at, place_of}
use Rattle.aria_pager.proofs.Setting.{overwritten}
use Rattle.aria_pager.proofs.page_store.PageStore.leave_slot.Goals as goal

pub returns-in-Some-clause-leaves : goal.returns-in-Some-clause-leaves
returns-in-Some-clause-leaves c =
    let slots = c.args.self.now.slots in
    let there = sym c.slot.ensures ∙ c.in-Some.is in
    record {
      held = c.remove_slot.ensures.held;
      pins = c.remove_slot.ensures.pins;
      slots = c.overwrite.ensures ∙ overwritten slots c.args.n c.unused.result (place_of slots c.args.n c.in-Some.slot there) ∙ ap (set_at slots c.args.n) c.unused.ensures
          ∙ sym (freed_at slots c.args.n c.in-Some.slot there);
    }
