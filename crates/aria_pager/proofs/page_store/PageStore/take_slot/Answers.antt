use Rattle.std.proofs.Common.{◌∙◌, refl}
use Rattle.aria_pager.proofs.Making.{knows_with}
use Rattle.aria_pager.proofs.Setting.{overwritten}
use Rattle.aria_pager.proofs.Slotting.{slot_low, unchanged_known}
use Rattle.aria_pager.proofs.Editing.{on_err}
use Rattle.aria_pager.proofs.page_store.PageStore.take_slot.Goals as goal

pub returns-in_err-insert-clause-failed : goal.returns-in_err-insert-clause-failed
returns-in_err-insert-clause-failed c = on_err c.from_residual.result (refl, unchanged_known c.args.self.now.tables c.insert.new.self c.in_err-insert.ensures.err)

pub returns-clause-slots : goal.returns-clause-slots
returns-clause-slots c = c.overwrite.ensures ∙ overwritten c.args.self.now.slots c.args.n c.args.slot (slot_low c.args.self.now.slots c.args.n c.requires.there)

pub returns-clause-knows : goal.returns-clause-knows
returns-clause-knows c = knows_with c.args.slot.name c.args.n c.args.self.now.tables c.insert.new.self c.in_ok-insert.ensures.updates
