use Rattle.std.proofs.Common.{◌≡◌, ◌≤◌, ◌<◌, ℕ, IsTrue, Some, false}
use Rattle.aria_host.specs.Calls.{Unchanged}
use Rattle.aria_log.specs.Pieces.{Piece, log_files, pieces_of}
use Rattle.aria_log.specs.Reading.{IsReader}
use Rattle.aria_log.specs.Finding.{IsNoted}
use Rattle.aria_log.proofs.find.begins_behind.Given as goal

abbrev pub invariant-loop-number : goal.invariant-loop-number
invariant-loop-number g l = record {
  same : IsTrue g.H.Host.tells → Unchanged (g.H.Host.state l.fn.host) (g.H.Host.state l.host);
  reader : IsTrue g.H.Host.tells → IsReader l.scan.reader (log_files (g.H.Host.state l.fn.host).folder);
  quiet : IsTrue g.H.Host.tells → (n : ℕ) (piece : Piece) → l.from ≤ n → n < l.number → pieces_of (log_files (g.H.Host.state l.fn.host).folder) n ≡ Some piece → piece.0 ≡ false;
  noted : IsTrue g.H.Host.tells → (first : ℕ) → first ≤ l.from → IsNoted (log_files (g.H.Host.state l.fn.host).folder) first l.from l.initial.scan.long → IsNoted (log_files (g.H.Host.state l.fn.host).folder) first l.number l.scan.long;
  disk : (g.H.Host.state l.host).disk_faults ≡ (g.H.Host.state l.fn.host).disk_faults;
  tell : (g.H.Host.state l.host).tell_faults ≡ (g.H.Host.state l.fn.host).tell_faults;
}
