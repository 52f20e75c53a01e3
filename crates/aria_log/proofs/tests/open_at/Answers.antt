use Rattle.std.proofs.Common.{inl, inr, refl}
use Rattle.aria_log.proofs.tests.open_at.Goals as goal

pub returns : goal.returns
returns c =
    elim (c.in_ok-log.ensures.opened refl) [
      | inl fails ↦ absurd fails
      | inr answers ↦ let is = answers.1 in (is.base, is.groups, is.opened)
    ]
