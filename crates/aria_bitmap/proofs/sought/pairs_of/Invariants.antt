use Rattle.std.proofs.Common.{◌≡◌, ℕ, ◌<◌, ◌/◌, ◌%◌, false, get_or}
use Rattle.std.specs.Prelude.{◌||◌}
use Rattle.aria_bitmap.proofs.sought.pairs_of.Given as goal

-- the pairs so far
abbrev pub invariant-loop-pair : goal.invariant-loop-pair
invariant-loop-pair l = (x : ℕ) → x < l.pair → get_or l.sought-items x false ≡ (get_or l.codes (x % 8) false || get_or l.codes (x / 8) false)
