use Rattle.std.proofs.Common.{◌≡◌, drop}
use Rattle.aria_model.specs.Step.{may_set}
use Rattle.aria_memory.proofs.settings.may_set.Given as goal

-- no column so far has the name, so the rest decides
abbrev pub invariant-loop-nth : goal.invariant-loop-nth
invariant-loop-nth l = may_set l.keyed l.nth (drop l.nth l.columns) l.name l.value ≡ may_set l.keyed 0 l.columns l.name l.value
