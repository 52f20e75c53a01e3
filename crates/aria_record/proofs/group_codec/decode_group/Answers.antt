use Rattle.std.proofs.Common.{arith}
use Rattle.aria_record.proofs.Records.{result_found, result_only}
use Rattle.aria_record.proofs.group_codec.decode_group.Goals as goal

pub returns-clause-found : goal.returns-clause-found
returns-clause-found c = result_found c.args.bytes.now c.decode.result (λ i. omega (arith, c.type_inv.bytes i)) c.decode.ensures

pub returns-clause-only : goal.returns-clause-only
returns-clause-only c = λ group rest is e. result_only c.args.bytes.now c.decode.result group rest c.decode.ensures is e
