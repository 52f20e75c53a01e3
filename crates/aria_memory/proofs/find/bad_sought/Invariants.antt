use Rattle.std.proofs.Common.{◌≡◌, drop}
use Rattle.std.specs.Prelude.{[]}
use Rattle.aria_model.specs.Step.{bad_sought}
use Rattle.aria_memory.proofs.find.bad_sought.Given as goal

-- the values so far may be sought, so the rest decides
abbrev pub invariant-loop-nth : goal.invariant-loop-nth
invariant-loop-nth l = bad_sought l.columns l.last (drop l.nth l.key) (drop l.nth l.values) ≡ bad_sought l.columns [] l.key l.values
