use Rattle.std.proofs.Common.{refl, ◌∙◌, ◌*◌}
use Rattle.aria_log.proofs.tests.walking.append.Goals as goal

pub force-requires : goal.force-requires
force-requires c = λ told.
    let (groups, forced, is) = c.loop-nth.invariant in
    let (records, fits, spelled) = c.in_ok-group.ensures in
    (8176 * 1024, _, forced, c.in_ok-append.ensures.appended refl (8176 * 1024) groups forced is records fits (c.as_slice.ensures ∙ spelled))

pub loop-nth-preserved : goal.loop-nth-preserved
loop-nth-preserved c =
    let (groups, forced, is) = c.loop-nth.invariant in
    let (records, fits, spelled) = c.in_ok-group.ensures in
    (_, _, c.in_ok-force.ensures.forced refl (8176 * 1024) _ forced (c.in_ok-append.ensures.appended refl (8176 * 1024) groups forced is records fits (c.as_slice.ensures ∙ spelled)))

pub loop-again-preserved : goal.loop-again-preserved
loop-again-preserved c =
    let (groups, forced, is) = c.loop-again.invariant in
    let (records, fits, spelled) = c.in_ok-group.ensures in
    (_, forced, c.in_ok-append-2.ensures.appended refl (8176 * 1024) groups forced is records fits (c.as_slice-in-loop-again.ensures ∙ spelled))
