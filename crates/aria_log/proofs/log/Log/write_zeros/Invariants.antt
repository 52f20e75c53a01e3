use Rattle.std.proofs.Common.{◌≡◌, ◌≤◌, ◌%◌, ℕ, List, true, IsTrue}
use Rattle.aria_log.specs.Pieces.{Piece}
use Rattle.aria_log.specs.Log.{IsWriting, behind, GoesAhead}
use Rattle.aria_log.proofs.log.Log.write_zeros.Given as goal

abbrev pub invariant-loop-page : goal.invariant-loop-page
invariant-loop-page g l = record {
  from : l.self.number % 1024 ≤ l.page;
  ahead : IsTrue g.H.Host.tells → (base : ℕ) (whole : List Piece) (parts : List (List ℕ)) → IsWriting (g.H.Host.state l.fn.host) base whole parts true → l.self.number ≡ behind base whole parts
      → GoesAhead (g.H.Host.state l.fn.host) (g.H.Host.state l.host) base whole parts;
  disk : (g.H.Host.state l.host).disk_faults ≡ (g.H.Host.state l.fn.host).disk_faults;
  tell : (g.H.Host.state l.host).tell_faults ≡ (g.H.Host.state l.fn.host).tell_faults;
}
