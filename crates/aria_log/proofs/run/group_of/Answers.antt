use Rattle.std.proofs.Common.{arith}
use Rattle.aria_log.proofs.GroupReads.{decodes}
use Rattle.aria_log.proofs.run.group_of.Goals as goal

pub returns-clause-decodes : goal.returns-clause-decodes
returns-clause-decodes c = decodes c.args.bytes.now c.decode_group.result (λ i. omega (arith, c.type_inv.bytes i)) c.decode_group.ensures.found c.decode_group.ensures.only
