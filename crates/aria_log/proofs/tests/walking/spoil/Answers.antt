use Rattle.std.proofs.Common.{refl, ◌*◌, ◌++◌}
use Rattle.std.proofs.lemmas.Result.{on_ok_weaker}
use Rattle.aria_host.specs.MemHost.{mem_state}
use Rattle.aria_log.specs.Groups.{groups_bytes}
use Rattle.aria_log.proofs.Readable.{running_front, at_readable, at_empty, running_readable}
use Rattle.aria_log.proofs.tests.walking.spoil.Goals as goal

pub returns-then-count-eq0 : goal.returns-then-count-eq0
returns-then-count-eq0 c =
    let (groups, forced, is) = c.requires.log in
    let all = (running_readable c.args.log.now (mem_state c.args.host.now) (8176 * 1024) groups forced is).all in
    (running_front is.whole is.at.parts is.at.held, all.readable, all.empty)

pub returns : goal.returns
returns c =
    let (groups, forced, is) = c.requires.log in
    on_ok_weaker c.add.result
    (λ at. (running_front is.whole at.parts at.held, at_readable c.add.new.self (mem_state c.add.new.host) (8176 * 1024) is.whole _ is.based at, at_empty c.add.new.self (mem_state c.add.new.host) (8176 * 1024) is.whole _ at))
    (c.add.ensures.added refl (8176 * 1024) is.whole (groups_bytes is.fresh) is.at)
