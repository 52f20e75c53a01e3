use Rattle.std.proofs.Common.{refl}
use Rattle.aria_log.proofs.tests.start.Goals as goal

pub returns : goal.returns
returns c = let (base, groups, is) = c.requires in (base, groups, _, c.in_ok-start.ensures.started refl base groups is)
