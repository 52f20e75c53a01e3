use Rattle.aria_host.proofs.Causes.{disk_or_memory}
use Rattle.aria_host.proofs.MemCalls.{mem_names}
use Rattle.aria_host.proofs.memory.mem_host.MemHostHost.names.Goals as goal

pub returns-then-fails-clause-cause : goal.returns-then-fails-clause-cause
returns-then-fails-clause-cause c =
    disk_or_memory c.args.self.now c.fails.new.self c.disk_fault.new.self c.disk_fault.result c.if-fails.ensures.faults c.disk_fault.ensures.is c.disk_fault.ensures.counted c.disk_fault.ensures.later c.disk_fault.ensures.tell

pub returns-clause-synced : goal.returns-clause-synced
returns-clause-synced c = mem_names c.fails.new.self
