use Rattle.std.proofs.Common.{◌≡◌, ℕ, ◌+◌, ◌-◌, ◌++◌, replicate, subst, arith}
use Rattle.aria_host.specs.System.Call.{Refused}
use Rattle.aria_host.proofs.real.std_source.take_some.Goals as goal

pub returns-clause-calls : goal.returns-clause-calls
returns-clause-calls g c = λ told.
    let l = c.loop-again in
    let count : l._again ≡ l._again - 1 + 1 = omega (arith, c.loop-again-test.false, l.auto._again-end) in
    (l._again - 1, subst (λ (n : ℕ). g.S.System.calls l.system ≡ replicate n Refused ++ g.S.System.calls c.args.system.now) count (l.invariant told))
