use Rattle.std.proofs.Common.{◌≡◌, ◌≤◌, ◌+◌, ◌-◌, ◌++◌, ℕ, List, length, IsTrue}
use Rattle.aria_host.specs.Calls.{Unchanged}
use Rattle.aria_log.specs.Pieces.{Piece, log_files}
use Rattle.aria_log.specs.Log.{place}
use Rattle.aria_log.specs.Reading.{IsReader}
use Rattle.aria_log.specs.Stepping.{IsLeft, ReadsOn}
use Rattle.aria_log.proofs.log.Log.gather.Given as goal

abbrev pub invariant-loop-bytes : goal.invariant-loop-bytes
invariant-loop-bytes g l = record {
  read : l.from + length l.bytes ≤ place l.self;
  some : length l.fn.bytes ≤ length l.bytes;
  reader : IsTrue g.H.Host.tells → IsReader l.reader (log_files (g.H.Host.state l.fn.host).folder);
  same : IsTrue g.H.Host.tells → Unchanged (g.H.Host.state l.fn.host) (g.H.Host.state l.host);
  gathered : IsTrue g.H.Host.tells → (rest : List Piece) → IsLeft l.self (log_files (g.H.Host.state l.fn.host).folder) (l.from + length l.fn.bytes) rest
      → (last : List Piece) × (more : List ℕ) × (l.bytes ≡ l.fn.bytes ++ more)
      × ReadsOn l.self (log_files (g.H.Host.state l.fn.host).folder) (l.from + length l.fn.bytes) (l.from + length l.bytes) rest last more;
  disk : (g.H.Host.state l.host).disk_faults ≡ (g.H.Host.state l.fn.host).disk_faults;
  tell : (g.H.Host.state l.host).tell_faults ≡ (g.H.Host.state l.fn.host).tell_faults;
}

abbrev pub decreases-loop-bytes : goal.decreases-loop-bytes
decreases-loop-bytes g l = place l.self - (l.from + length l.bytes)
