use Rattle.std.proofs.Common.{◌≡◌, ◌≤◌, ◌+◌, ◌/◌, ℕ, List, IsTrue, length}
use Rattle.aria_log.specs.Pieces.{Piece}
use Rattle.aria_log.specs.Log.{IsWriting, behind, SyncedUpTo}
use Rattle.aria_log.proofs.log.Log.sync_run.Given as goal

abbrev pub invariant-loop-file : goal.invariant-loop-file
invariant-loop-file g l = record {
  from : l.self.first / 1024 ≤ l.file;
  synced : IsTrue g.H.Host.tells → (base : ℕ) (whole : List Piece) (parts : List (List ℕ)) → IsWriting (g.H.Host.state l.fn.host) base whole parts l.self.there
      → l.self.number ≡ behind base whole parts → l.self.first ≡ base / 8176 + length whole
      → SyncedUpTo (g.H.Host.state l.fn.host) (g.H.Host.state l.host) base whole parts l.self.there l.file;
  disk : (g.H.Host.state l.host).disk_faults ≡ (g.H.Host.state l.fn.host).disk_faults;
  tell : (g.H.Host.state l.host).tell_faults ≡ (g.H.Host.state l.fn.host).tell_faults;
}
