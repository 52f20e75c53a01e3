use Rattle.std.proofs.Common.{arith}
use Rattle.aria_page.specs.Edit.{IsWithin}
use Rattle.aria_key.proofs.Holding.{all-index, cost-le}
use Rattle.aria_key.proofs.offer.offer_of.Goals as goal

pub returns-in-Some-clause-small : goal.returns-in-Some-clause-small
returns-in-Some-clause-small c =
    let changes = rw c.in-Some.is at c.in_ok-edits.ensures.page in
    let few = rw c.in-Some.is at c.in_ok-edits.ensures.few in
    let most = rw c.in-Some.is at c.in_ok-edits.ensures.most in
    record { within = all-index IsWithin c.in-Some.edits changes.within; few = few; bytes = omega (arith, cost-le c.in-Some.edits, few, most) }
