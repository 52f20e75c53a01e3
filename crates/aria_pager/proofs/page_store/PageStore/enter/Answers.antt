use Rattle.std.proofs.Common.{◌∙◌, ap}
use Rattle.aria_pager.specs.PageStore.{set_at}
use Rattle.aria_pager.proofs.Entering.{slot_low}
use Rattle.aria_pager.proofs.Setting.{overwritten}
use Rattle.aria_pager.proofs.page_store.PageStore.enter.Goals as goal

pub returns-clause-slots : goal.returns-clause-slots
returns-clause-slots c = c.overwrite.ensures ∙ overwritten c.args.self.now.slots c.args.n c.first_slot.result (slot_low c.args.self.now.slots c.args.n c.requires.there) ∙ ap (set_at c.args.self.now.slots c.args.n) c.first_slot.ensures
