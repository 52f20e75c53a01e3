use Rattle.aria_host.proofs.Causes.{disk_cause}
use Rattle.aria_host.proofs.memory.mem_host.MemHostHost.sync.Goals as goal

pub returns-then-not-changes-clause-cause : goal.returns-then-not-changes-clause-cause
returns-then-not-changes-clause-cause c =
    disk_cause c.args.self.now c.changes.new.self c.disk_fault.new.self c.disk_fault.result c.if-not-changes.ensures.faults c.disk_fault.ensures.is c.disk_fault.ensures.counted c.disk_fault.ensures.later c.disk_fault.ensures.tell
