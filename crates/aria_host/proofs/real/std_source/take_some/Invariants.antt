use Rattle.std.proofs.Common.{◌≡◌, IsTrue, ◌++◌, replicate}
use Rattle.aria_host.specs.System.Call.{Refused}
use Rattle.aria_host.proofs.real.std_source.take_some.Given as goal

abbrev pub invariant-loop-again : goal.invariant-loop-again
invariant-loop-again g l = IsTrue g.S.System.tells → g.S.System.calls l.system ≡ replicate l._again Refused ++ g.S.System.calls l.fn.system
