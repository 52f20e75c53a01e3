use Rattle.std.proofs.Common.{◌≤◌, ◌^◌, IfSome}
use Rattle.aria_host.proofs.OnePass.{Sees}
use Rattle.aria_host.proofs.memory.seen.see.Given as goal

abbrev pub invariant-loop-change : goal.invariant-loop-change
invariant-loop-change l =
    Sees l.changes l.change-index l.file l.at l.fn.count l.fn.held l.count l.held × (IfSome l.fn.count (λ n. n ≤ 2 ^ 31) → IfSome l.count (λ n. n ≤ 2 ^ 31))
