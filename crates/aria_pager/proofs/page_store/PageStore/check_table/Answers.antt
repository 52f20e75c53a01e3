use Rattle.std.proofs.Common.{refl}
use Rattle.aria_host.proofs.Answered.{on_ok, on_ok_of}
use Rattle.aria_pager.proofs.page_store.PageStore.check_table.Goals as goal

pub returns-in-Some-clause-header : goal.returns-in-Some-clause-header
returns-in-Some-clause-header g c = λ told. on_ok c.check_slot.result _ (λ on m is. on_ok_of c.check_slot.result _ (c.check_slot.ensures.header told) on)

pub returns-in-None-clause-header : goal.returns-in-None-clause-header
returns-in-None-clause-header g c = λ told m is. absurd (c.in-None.ensures.none refl m (c.requires.tidy.known m c.args.name.now is) is)
