use Rattle.std.proofs.Common.{◌∙◌, refl}
use Rattle.aria_log.proofs.Testing.{still_running}
use Rattle.aria_log.proofs.tests.boundary.is_spent.Goals as goal

pub returns-in-Ok : goal.returns-in-Ok
returns-in-Ok c =
    let (base, groups, forced, is) = c.requires in
    let (records, fits, spelled) = c.in_ok-group.ensures in
    (base, _, forced, c.in-Ok.ensures.appended refl base groups forced is records fits (c.as_slice.ensures ∙ spelled))

pub returns-in-Err-LogSpent : goal.returns-in-Err-LogSpent
returns-in-Err-LogSpent c =
    still_running c.args.log.now c.append.new.self c.args.host.now c.append.new.host _ c.in-Err-LogSpent.file c.in-Err-LogSpent.field-0 c.append.result c.in-Err-LogSpent.is c.in-Err-LogSpent.field-0-is c.append.ensures.cause c.requires
