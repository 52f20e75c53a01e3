use Rattle.std.proofs.Common.{◌∙◌, ap}
use Rattle.aria_host.specs.Folder.{Folder}
use Rattle.aria_host.specs.Seen.{page_or_zero}
use Rattle.aria_host.specs.MemHost.{mem_state}
use Rattle.aria_host.proofs.Causes.{disk_cause}
use Rattle.aria_host.proofs.MemCalls.{unchanged}
use Rattle.aria_host.proofs.OnePass.{held_page}
use Rattle.aria_host.proofs.memory.mem_host.MemHostHost.read_page.Goals as goal

pub returns-then-fails-clause-cause : goal.returns-then-fails-clause-cause
returns-then-fails-clause-cause c =
    disk_cause c.args.self.now c.fails.new.self c.disk_fault.new.self c.disk_fault.result c.if-fails.ensures.faults c.disk_fault.ensures.is c.disk_fault.ensures.counted c.disk_fault.ensures.later c.disk_fault.ensures.tell

pub returns-clause-page : goal.returns-clause-page
returns-clause-page c =
    let old = c.args.self.now in
    let file = c.args.file.now in
    let same = (unchanged old c.fails.new.self c.if-fails.ensures.same).folder in
    held_page c.args.page c.seen.result.1.now ((mem_state old).folder file) c.requires.there (c.seen.ensures.page ∙ ap (λ (f : Folder). page_or_zero c.args.page (f file)) same)
