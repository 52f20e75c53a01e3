use Rattle.std.proofs.Common.{List, subst}
use Rattle.std.specs.Prelude.{All}
use Rattle.aria_host.proofs.Answered.{on_ok, on_ok_of}
use Rattle.aria_pager.specs.declared.slot.Slot.{Slot}
use Rattle.aria_pager.specs.Headers.{BeginsIn}
use Rattle.aria_pager.proofs.Heading.{headers_all}
use Rattle.aria_pager.proofs.page_store.PageStore.check_tables.Goals as goal

pub returns-clause-headers : goal.returns-clause-headers
returns-clause-headers g c = λ told. on_ok c.check_slots.result _ (λ on.
    let store = c.args.self.now in
    let d = (g.H.Host.state c.args.host.now).folder in
    headers_all store d (subst (λ (l : List Slot). All (λ slot. BeginsIn store d slot.name) l) c.as_slice.ensures (on_ok_of c.check_slots.result _ (c.check_slots.ensures.headers told) on)))
