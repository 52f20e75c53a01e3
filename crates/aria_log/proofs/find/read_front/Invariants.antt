use Rattle.std.proofs.Common.{◌≡◌, IsTrue}
use Rattle.aria_host.specs.Calls.{Unchanged}
use Rattle.aria_log.specs.Pieces.{log_files}
use Rattle.aria_log.specs.Reading.{IsReader}
use Rattle.aria_log.specs.Finding.{IsNoted}
use Rattle.aria_log.proofs.FrontReads.{IsReadTo}
use Rattle.aria_log.proofs.find.read_front.Given as goal

abbrev pub invariant-loop-number : goal.invariant-loop-number
invariant-loop-number g l = record {
  same : IsTrue g.H.Host.tells → Unchanged (g.H.Host.state l.fn.host) (g.H.Host.state l.host);
  reader : IsTrue g.H.Host.tells → IsReader l.scan.reader (log_files (g.H.Host.state l.fn.host).folder);
  read : IsTrue g.H.Host.tells → IsReadTo (log_files (g.H.Host.state l.fn.host).folder) l.first l.number l.may;
  noted : IsTrue g.H.Host.tells → IsNoted (log_files (g.H.Host.state l.fn.host).folder) l.first l.number l.scan.long;
  disk : (g.H.Host.state l.host).disk_faults ≡ (g.H.Host.state l.fn.host).disk_faults;
  tell : (g.H.Host.state l.host).tell_faults ≡ (g.H.Host.state l.fn.host).tell_faults;
}
