use Rattle.std.proofs.Common.{◌≡◌, List, take}
use Rattle.std.specs.Prelude.{IsTrue, All}
use Rattle.aria_host.specs.Calls.{Unchanged}
use Rattle.aria_pager.specs.Headers.{BeginsIn}
use Rattle.aria_pager.proofs.page_store.PageStore.check_slots.Given as goal

abbrev pub invariant-loop-slot : goal.invariant-loop-slot
invariant-loop-slot g l = record {
  headers : IsTrue g.H.Host.tells → All (λ slot. BeginsIn l.self (g.H.Host.state l.fn.host).folder slot.name) (take l.slot-index l.slots);
  same : IsTrue g.H.Host.tells → Unchanged (g.H.Host.state l.fn.host) (g.H.Host.state l.host);
  disk : (g.H.Host.state l.host).disk_faults ≡ (g.H.Host.state l.fn.host).disk_faults;
  tell : (g.H.Host.state l.host).tell_faults ≡ (g.H.Host.state l.fn.host).tell_faults;
}
