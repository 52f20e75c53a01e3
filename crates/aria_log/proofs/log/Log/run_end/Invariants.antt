use Rattle.std.proofs.Common.{◌≡◌, ◌≤◌, ◌-◌, ℕ, List, IsTrue}
use Rattle.aria_host.specs.Calls.{Unchanged}
use Rattle.aria_log.specs.Pieces.{Piece, log_files}
use Rattle.aria_log.specs.Log.{place}
use Rattle.aria_log.specs.Reading.{IsReader}
use Rattle.aria_log.specs.Stepping.{IsLeft, ReadsOn}
use Rattle.aria_log.proofs.log.Log.run_end.Given as goal

abbrev pub invariant-loop-reader : goal.invariant-loop-reader
invariant-loop-reader g l = record {
  read : l.end ≤ place l.self;
  some : l.fn.read ≤ l.end;
  reader : IsTrue g.H.Host.tells → IsReader l.reader (log_files (g.H.Host.state l.fn.host).folder);
  same : IsTrue g.H.Host.tells → Unchanged (g.H.Host.state l.fn.host) (g.H.Host.state l.host);
  reads : IsTrue g.H.Host.tells → (rest : List Piece) → IsLeft l.self (log_files (g.H.Host.state l.fn.host).folder) l.fn.read rest
      → (last : List Piece) × (more : List ℕ) × ReadsOn l.self (log_files (g.H.Host.state l.fn.host).folder) l.fn.read l.end rest last more;
  disk : (g.H.Host.state l.host).disk_faults ≡ (g.H.Host.state l.fn.host).disk_faults;
  tell : (g.H.Host.state l.host).tell_faults ≡ (g.H.Host.state l.fn.host).tell_faults;
}

abbrev pub decreases-loop-reader : goal.decreases-loop-reader
decreases-loop-reader g l = place l.self - l.end
