use Rattle.std.proofs.Common.{◌≡◌, IsTrue}
use Rattle.aria_host.specs.Calls.{Narrows}
use Rattle.aria_pager.proofs.Written.{SyncedUpTo}
use Rattle.aria_pager.proofs.page_store.PageStore.sync_tables.Given as goal

abbrev pub invariant-loop-slot : goal.invariant-loop-slot
invariant-loop-slot g l = record {
  narrows : IsTrue g.H.Host.tells → Narrows (g.H.Host.state l.fn.host) (g.H.Host.state l.host);
  synced : IsTrue g.H.Host.tells → SyncedUpTo l.self.slots (g.H.Host.state l.host) l.slot-index;
  disk : (g.H.Host.state l.host).disk_faults ≡ (g.H.Host.state l.fn.host).disk_faults;
  tell : (g.H.Host.state l.host).tell_faults ≡ (g.H.Host.state l.fn.host).tell_faults;
}
