use Rattle.std.proofs.Common.{◌≡◌, length}
use Rattle.aria_cache.specs.Frames.{last_free, victim_of}
use Rattle.aria_cache.proofs.frames.Frames.victim.Given as goal

abbrev pub invariant-loop-key : goal.invariant-loop-key
invariant-loop-key l = last_free l.self l.rest ≡ victim_of l.self

abbrev pub decreases-loop-key : goal.decreases-loop-key
decreases-loop-key l = length l.rest
