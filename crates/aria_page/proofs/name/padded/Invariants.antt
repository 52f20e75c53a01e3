use Rattle.std.proofs.Common.{◌≡◌, ◌-◌, ◌++◌, take}
use Rattle.std.proofs.Math.ListN.{replicate}
use Rattle.aria_page.proofs.name.padded.Given as goal

-- the bytes so far, and zeros in the place of those to come
abbrev pub invariant-loop-i : goal.invariant-loop-i
invariant-loop-i l = l.all ≡ take l.i l.bytes ++ replicate (64 - l.i) 0
