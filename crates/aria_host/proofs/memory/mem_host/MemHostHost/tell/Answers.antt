use Rattle.aria_host.proofs.MemCalls.{tells_done}
use Rattle.aria_host.proofs.memory.mem_host.MemHostHost.tell.Goals as goal

pub returns-clause-told : goal.returns-clause-told
returns-clause-told c = tells_done c.args.stream c.args.bytes.now c.args.self.now c.tells.new.self c.if-not-tells.ensures.done
