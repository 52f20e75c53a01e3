use Rattle.std.proofs.Common.{◌∙◌, ap}
use Rattle.aria_pager.specs.PageStore.{set_at}
use Rattle.aria_pager.proofs.Setting.{overwritten}
use Rattle.aria_pager.proofs.edit.set_edited.Goals as goal

pub returns : goal.returns
returns c = c.overwrite.ensures ∙ overwritten c.args.slots.now c.args.at.slot c.with_edited-slot.result c.requires.there ∙ ap (set_at c.args.slots.now c.args.at.slot) c.with_edited-slot.ensures
