use Rattle.std.proofs.Common.{refl, ◌∙◌}
use Rattle.aria_log.proofs.tests.append_all.Goals as goal

pub loop-nth-preserved : goal.loop-nth-preserved
loop-nth-preserved c =
    let (base, groups, forced, is) = c.loop-nth.invariant in
    let (records, fits, spelled) = c.in_ok-group.ensures in
    (base, _, forced, c.in_ok-append.ensures.appended refl base groups forced is records fits (c.as_slice.ensures ∙ spelled))
