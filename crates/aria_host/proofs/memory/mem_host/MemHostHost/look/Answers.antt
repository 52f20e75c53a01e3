use Rattle.aria_host.proofs.Causes.{disk_cause}
use Rattle.aria_host.proofs.memory.mem_host.MemHostHost.look.Goals as goal

pub returns-then-fails-clause-cause : goal.returns-then-fails-clause-cause
returns-then-fails-clause-cause c =
    disk_cause c.args.self.now c.fails.new.self c.disk_fault.new.self c.disk_fault.result c.if-fails.ensures.faults c.disk_fault.ensures.is c.disk_fault.ensures.counted c.disk_fault.ensures.later c.disk_fault.ensures.tell
