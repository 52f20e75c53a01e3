use Rattle.std.proofs.Common.{◌≡◌, ◌≤◌, ◌+◌, ◌-◌, ℕ, List, ◌++◌, take, length, true, IsTrue}
use Rattle.aria_journal.specs.Log.{IsAt, Adds, place}
use Rattle.aria_journal.proofs.log.Log.add.Given as goal

abbrev pub invariant-loop-at : goal.invariant-loop-at
invariant-loop-at g l = record {
  bound : l.at ≤ length l.bytes;
  place_is : place l.self ≡ place l.fn.self + l.at;
  used_is : 1 ≤ l.at → 1 ≤ l.self.used;
  adds : IsTrue g.H.Host.tells → (base : List (List ℕ)) (text : List ℕ) → IsAt l.fn.self (g.H.Host.state l.fn.host) base text → Adds l.self (g.H.Host.state l.fn.host) (g.H.Host.state l.host) base (text ++ take l.at l.bytes) true;
  disk : (g.H.Host.state l.host).disk_faults ≡ (g.H.Host.state l.fn.host).disk_faults;
  tell : (g.H.Host.state l.host).tell_faults ≡ (g.H.Host.state l.fn.host).tell_faults;
}

abbrev pub decreases-loop-at : goal.decreases-loop-at
decreases-loop-at g l = length l.bytes - l.at
