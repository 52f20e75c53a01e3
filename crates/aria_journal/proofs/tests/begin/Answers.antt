use Rattle.aria_host.specs.MemHost.{mem_state}
use Rattle.aria_journal.proofs.AtRest.{still_rests}
use Rattle.aria_journal.proofs.tests.begin.Goals as goal

pub start-requires-clause-rest : goal.start-requires-clause-rest
start-requires-clause-rest c = λ told. still_rests (mem_state c.args.host.now) (mem_state c.open.new.host) (c.in_ok-log.ensures.same told) c.requires
