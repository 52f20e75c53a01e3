use Rattle.std.proofs.Common.{arith}
use Rattle.aria_value.proofs.StoredDefinitions.{definitions_found, definitions_only}
use Rattle.aria_value.proofs.definition_codec.decode_definition.Goals as goal

pub returns-clause-found : goal.returns-clause-found
returns-clause-found c = definitions_found c.args.bytes.now c.definition_at.result (λ i. omega (arith, c.type_inv.bytes i)) c.definition_at.ensures

pub returns-clause-only : goal.returns-clause-only
returns-clause-only c = λ d is names e. definitions_only c.args.bytes.now d c.definition_at.result is names e c.definition_at.ensures
