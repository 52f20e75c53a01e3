use Rattle.std.proofs.Common.{◌≡◌, true}
use Rattle.aria_value.specs.Defined.{entries_fit}
use Rattle.aria_value.proofs.definition_check.entries_fit.Given as goal

-- the entries of the keys so far fit
abbrev pub invariant-loop-key : goal.invariant-loop-key
invariant-loop-key l = entries_fit l.definition l.key ≡ true
