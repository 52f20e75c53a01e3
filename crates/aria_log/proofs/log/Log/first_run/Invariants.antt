use Rattle.std.proofs.Common.{◌≡◌, ◌<◌, ◌+◌, ◌-◌, ◌*◌, ◌^◌, ℕ, List, IsTrue}
use Rattle.aria_host.specs.Calls.{Unchanged}
use Rattle.aria_log.specs.Pieces.{Piece, log_files}
use Rattle.aria_record.specs.Logged.{lsn_at_place}
use Rattle.aria_log.specs.Reading.{IsReader, IsReadable, entries_of_runs}
use Rattle.aria_log.specs.Stepping.{RunsFrom}
use Rattle.aria_log.proofs.log.Log.first_run.Given as goal

abbrev pub invariant-loop-number : goal.invariant-loop-number
invariant-loop-number g l = record {
  low : l.number < 2 ^ 45;
  reader : IsTrue g.H.Host.tells → IsReader l.reader (log_files (g.H.Host.state l.fn.host).folder);
  same : IsTrue g.H.Host.tells → Unchanged (g.H.Host.state l.fn.host) (g.H.Host.state l.host);
  runs : IsTrue g.H.Host.tells → (n : ℕ) (front : List Piece) → IsReadable l.self (log_files (g.H.Host.state l.fn.host).folder) (8176 * n) front → l.fn.from ≡ lsn_at_place (8176 * n)
      → RunsFrom l.self (log_files (g.H.Host.state l.fn.host).folder) (entries_of_runs n front) l.number;
  disk : (g.H.Host.state l.host).disk_faults ≡ (g.H.Host.state l.fn.host).disk_faults;
  tell : (g.H.Host.state l.host).tell_faults ≡ (g.H.Host.state l.fn.host).tell_faults;
}

abbrev pub decreases-loop-number : goal.decreases-loop-number
decreases-loop-number g l = l.self.number + 1 - l.number
