use Rattle.std.proofs.Common.{◌≡◌, IsTrue, drop}
use Rattle.aria_host.specs.Calls.{Unchanged}
use Rattle.aria_journal.specs.Front.{begins_behind}
use Rattle.aria_journal.specs.Log.{log_pages}
use Rattle.aria_journal.proofs.scan.begins_from.Given as goal

abbrev pub invariant-loop-number : goal.invariant-loop-number
invariant-loop-number g l = record {
  same : IsTrue g.H.Host.tells → Unchanged (g.H.Host.state l.fn.host) (g.H.Host.state l.host);
  quiet : IsTrue g.H.Host.tells → begins_behind l.from (drop l.from (log_pages (g.H.Host.state l.fn.host).folder)) ≡ begins_behind l.number (drop l.number (log_pages (g.H.Host.state l.fn.host).folder));
  disk : (g.H.Host.state l.host).disk_faults ≡ (g.H.Host.state l.fn.host).disk_faults;
  tell : (g.H.Host.state l.host).tell_faults ≡ (g.H.Host.state l.fn.host).tell_faults;
}
