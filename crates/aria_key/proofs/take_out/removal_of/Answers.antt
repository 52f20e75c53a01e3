use Rattle.std.proofs.Common.{arith}
use Rattle.aria_page.specs.Edit.{IsWithin}
use Rattle.aria_key.proofs.Holding.{all-index, cost-le}
use Rattle.aria_key.proofs.take_out.removal_of.Goals as goal

pub returns-clause-small : goal.returns-clause-small
returns-clause-small c = record {
  within = all-index IsWithin c.in_ok-edits.edits c.in_ok-edits.ensures.page.within;
  few = c.in_ok-edits.ensures.few;
  bytes = omega (arith, cost-le c.in_ok-edits.edits, c.in_ok-edits.ensures.few, c.in_ok-edits.ensures.most);
}
