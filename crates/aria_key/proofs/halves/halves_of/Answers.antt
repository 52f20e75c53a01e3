use Rattle.std.proofs.Common.{arith}
use Rattle.aria_page.specs.Edit.{IsWithin}
use Rattle.aria_key.proofs.Holding.{all-index, cost-le, some-left}
use Rattle.aria_key.proofs.halves.halves_of.Goals as goal

pub returns-clause-small : goal.returns-clause-small
returns-clause-small c = record {
  within = all-index IsWithin c.in_ok-split.split.left c.in_ok-split.ensures.split.left.within;
  few = c.in_ok-split.ensures.few;
  bytes = omega (arith, cost-le c.in_ok-split.split.left, c.in_ok-split.ensures.few, c.in_ok-split.ensures.bytes);
}

pub returns-clause-some : goal.returns-clause-some
returns-clause-some c = λ body long spells. some-left c.args.page.now c.in_ok-split.split.left c.in_ok-split.split.right c.in_ok-split.split.between body long spells c.in_ok-split.ensures.split
