use Rattle.std.proofs.Common.{◌≡◌, ℕ, false, List, ◌++◌, length}
use Rattle.std.specs.List.{list_any}
use Rattle.aria_engine.specs.Store.{SameFaults}
use Rattle.aria_tools.specs.Held.{clipped, is_lf}
use Rattle.aria_tools.specs.Pieces.{Fed, IsReady}
use Rattle.aria_tools.proofs.session.Session.feed.Given as goal

-- The lines that end in front of what is left are done, and what is behind the last of them is held.
abbrev pub invariant-loop-line : goal.invariant-loop-line
invariant-loop-line g l = record {
  calm : SameFaults (g.H.Host.state l.fn.host) (g.H.Host.state l.host);
  ready : IsReady g.H.Host.tells l.self.store (g.H.Host.state l.host);
  fed : (rest : List ℕ) → list_any is_lf rest ≡ false → l.fn.self.held.items ≡ clipped rest →
      (front : List ℕ) × (here : List ℕ) × (l.piece ≡ front ++ l.left) × (l.self.held.items ≡ clipped here)
      × Fed g.H.Host.tells rest front here l.fn.self.store l.self.store l.fn.self.refused l.self.refused (g.H.Host.state l.fn.host) (g.H.Host.state l.host);
}

abbrev pub decreases-loop-line : goal.decreases-loop-line
decreases-loop-line g l = length l.left
