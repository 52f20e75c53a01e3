use Rattle.std.proofs.Common.{refl, inl, inr}
use Rattle.aria_log.proofs.tests.finding.begin_again.Goals as goal

pub start-requires : goal.start-requires
start-requires c = λ told. elim (c.in_ok-log.ensures.opened told) [
  | inl never ↦ absurd never
  | inr is ↦ (is.1.base, is.1.groups, is.1.opened)
]

pub returns : goal.returns
returns c = elim (c.in_ok-log.ensures.opened refl) [
  | inl never ↦ absurd never
  | inr is ↦ (is.1.base, is.1.groups, _, c.in_ok-start.ensures.started refl is.1.base is.1.groups is.1.opened)
]
