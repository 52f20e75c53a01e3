use Rattle.std.proofs.Common.{◌≡◌, ◌/◌, ◌<◌, ◌^◌, ℕ, List, true, IsTrue}
use Rattle.aria_record.specs.Logged.{Logged}
use Rattle.aria_log.specs.Log.{IsOpened, Starts}
use Rattle.aria_log.proofs.log.Log.remove_later.Given as goal

abbrev pub invariant-loop-file : goal.invariant-loop-file
invariant-loop-file g l = record {
  low : l.file < 2 ^ 24;
  end_is : l.end ≡ l.self.number / 1024;
  starts : IsTrue g.H.Host.tells → (base : ℕ) (groups : List Logged) → IsOpened l.self (g.H.Host.state l.fn.host) base groups l.self.last
      → Starts l.self (g.H.Host.state l.fn.host) (g.H.Host.state l.host) base groups l.file true;
  disk : (g.H.Host.state l.host).disk_faults ≡ (g.H.Host.state l.fn.host).disk_faults;
  tell : (g.H.Host.state l.host).tell_faults ≡ (g.H.Host.state l.fn.host).tell_faults;
}

abbrev pub decreases-loop-file : goal.decreases-loop-file
decreases-loop-file g l = l.file
