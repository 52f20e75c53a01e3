use Rattle.std.proofs.Common.{◌≡◌, ◌≤◌, ◌+◌, ◌-◌, ℕ, List, ◌++◌, take, length, IsTrue}
use Rattle.aria_log.specs.Pieces.{Piece}
use Rattle.aria_log.specs.Log.{IsAt, IsStrict, LogMoments, place}
use Rattle.aria_log.proofs.log.Log.add.Given as goal

abbrev pub invariant-loop-at : goal.invariant-loop-at
invariant-loop-at g l = record {
  bound : l.at ≤ length l.bytes;
  place_is : place l.self ≡ place l.fn.self + l.at;
  used_is : 1 ≤ l.at → 1 ≤ l.self.used;
  first_is : l.self.first ≡ l.fn.self.first;
  is_at : IsTrue g.H.Host.tells → (base : ℕ) (whole : List Piece) (text : List ℕ) → IsAt l.fn.self (g.H.Host.state l.fn.host) base whole text → IsAt l.self (g.H.Host.state l.host) base whole (text ++ take l.at l.bytes);
  keeps : IsTrue g.H.Host.tells → (base : ℕ) (whole : List Piece) (text : List ℕ) → IsAt l.fn.self (g.H.Host.state l.fn.host) base whole text
      → LogMoments (g.H.Host.state l.fn.host) (g.H.Host.state l.host) (IsStrict base whole (text ++ l.bytes));
  disk : (g.H.Host.state l.host).disk_faults ≡ (g.H.Host.state l.fn.host).disk_faults;
  tell : (g.H.Host.state l.host).tell_faults ≡ (g.H.Host.state l.fn.host).tell_faults;
}

abbrev pub decreases-loop-at : goal.decreases-loop-at
decreases-loop-at g l = length l.bytes - l.at
