use Rattle.std.proofs.Common.{◌≡◌, ◌-◌, ◌^◌, ℕ, List}
use Rattle.aria_tools.specs.Held.{clipped}
use Rattle.aria_tools.specs.Pieces.{supply, IsReady}
use Rattle.aria_tools.proofs.Pieces.{Reached}
use Rattle.aria_tools.proofs.reading.read_script.Given as goal

-- The lines that LF ends in what was read are answered, and what is behind the last of them is held.
abbrev pub invariant-pieces : goal.invariant-pieces
invariant-pieces g l = (read : List ℕ) × (rest : List ℕ) × (l.session.held.items ≡ clipped rest)
    × IsReady g.H.Host.tells l.session.store (g.H.Host.state l.host)
    × Reached g.S.Source.tells g.H.Host.tells l.taken read rest l.fn.session.store l.session.store l.fn.session.refused l.session.refused
    (g.H.Host.state l.fn.host) (g.H.Host.state l.host)
    (supply (g.S.Source.left l.fn.input) (g.S.Source.taken l.fn.input) (g.S.Source.faults l.fn.input)) (supply (g.S.Source.left l.input) (g.S.Source.taken l.input) (g.S.Source.faults l.input))

abbrev pub decreases-pieces : goal.decreases-pieces
decreases-pieces g l = 2 ^ 40 - l.taken
