use Rattle.std.proofs.Common.{refl, ◌∙◌}
use Rattle.aria_readlog.proofs.tests.commit_one.Goals as goal

pub force-requires : goal.force-requires
force-requires c = λ told.
    let (base, groups, forced, is) = c.requires in
    let (records, fits, spelled) = c.in_ok-group.ensures in
    (base, _, forced, c.in_ok-append.ensures.appended refl base groups forced is records fits (c.as_slice.ensures ∙ spelled))
