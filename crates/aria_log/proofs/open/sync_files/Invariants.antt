use Rattle.std.proofs.Common.{◌≡◌, ◌≤◌, ◌<◌, ℕ, IsTrue}
use Rattle.aria_host.specs.Folder.{Folder}
use Rattle.aria_host.specs.Calls.{Narrows}
use Rattle.aria_log.specs.Pieces.{log_files}
use Rattle.aria_log.proofs.open.sync_files.Given as goal

abbrev pub invariant-loop-file : goal.invariant-loop-file
invariant-loop-file g l = record {
  same : IsTrue g.H.Host.tells → Narrows (g.H.Host.state l.fn.host) (g.H.Host.state l.host);
  rest : IsTrue g.H.Host.tells → (c : Folder) → (g.H.Host.state l.host).may_leave c → (f : ℕ) → l.low ≤ f → f < l.file → log_files c f ≡ log_files (g.H.Host.state l.fn.host).folder f;
  disk : (g.H.Host.state l.host).disk_faults ≡ (g.H.Host.state l.fn.host).disk_faults;
  tell : (g.H.Host.state l.host).tell_faults ≡ (g.H.Host.state l.fn.host).tell_faults;
}
