use Rattle.std.proofs.Common.{arith}
use Rattle.aria_value.proofs.KeptRows.{kept_found, kept_only}
use Rattle.aria_value.proofs.kept_row.read_kept.Goals as goal

pub returns-clause-found : goal.returns-clause-found
returns-clause-found c = kept_found c.args.definition.now c.args.format c.args.bytes.now c.kept_row.result (λ i. omega (arith, c.type_inv.bytes i)) c.kept_row.ensures

pub returns-clause-only : goal.returns-clause-only
returns-clause-only c = λ row is e. kept_only c.args.definition.now c.args.format c.args.bytes.now row c.kept_row.result (λ i. omega (arith, c.type_inv.bytes i)) is e c.kept_row.ensures
