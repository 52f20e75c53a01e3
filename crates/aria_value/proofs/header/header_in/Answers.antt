use Rattle.std.proofs.Common.{arith}
use Rattle.aria_value.proofs.Headers.{header_found}
use Rattle.aria_value.proofs.header.header_in.Goals as goal

pub returns-clause-is : goal.returns-clause-is
returns-clause-is c = header_found c.args.body.now c.header_at.result (λ i. omega (arith, c.type_inv.body i)) c.header_at.ensures
