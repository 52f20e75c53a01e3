use Rattle.std.proofs.Common.{◌∙◌, sym}
use Rattle.aria_pager.proofs.Lending.{file_slot}
use Rattle.aria_pager.proofs.page_store.PageStore.file.Goals as goal

pub returns-in-Some : goal.returns-in-Some
returns-in-Some c = c.file.ensures ∙ file_slot c.args.self.now c.args.slot c.args.part c.in-Some.slot c.requires.open (sym c.in-Some.ensures)
