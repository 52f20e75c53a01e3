use Rattle.std.proofs.Common.{◌≡◌, IsTrue}
use Rattle.aria_host.specs.Calls.{Unchanged}
use Rattle.aria_journal.specs.Places.{EndsBefore}
use Rattle.aria_journal.specs.Log.{log_pages}
use Rattle.aria_journal.proofs.Opening.{IsReadTo}
use Rattle.aria_journal.proofs.scan.read_front.Given as goal

abbrev pub invariant-loop-number : goal.invariant-loop-number
invariant-loop-number g l = record {
  same : IsTrue g.H.Host.tells → Unchanged (g.H.Host.state l.fn.host) (g.H.Host.state l.host);
  read : IsTrue g.H.Host.tells → IsReadTo (log_pages (g.H.Host.state l.fn.host).folder) l.number l.reader.frames l.reader.first l.reader.run l.reader.full;
  before : EndsBefore l.reader.first l.reader.run l.number;
  disk : (g.H.Host.state l.host).disk_faults ≡ (g.H.Host.state l.fn.host).disk_faults;
  tell : (g.H.Host.state l.host).tell_faults ≡ (g.H.Host.state l.fn.host).tell_faults;
}
