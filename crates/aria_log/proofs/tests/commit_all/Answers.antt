use Rattle.std.proofs.Common.{refl}
use Rattle.aria_log.proofs.tests.commit_all.Goals as goal

pub returns : goal.returns
returns c =
    let (base, groups, forced, is) = c.in_ok-append_all.ensures in
    (base, groups, _, c.in_ok-force.ensures.forced refl base groups forced is)
