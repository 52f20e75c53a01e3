use Rattle.std.proofs.Common.{refl}
use Rattle.aria_readlog.proofs.tests.begin.Goals as goal

pub returns : goal.returns
returns c = (_, _, _, c.in_ok-start.ensures.started refl _ _ (c.fresh-log.ensures.opened refl c.requires))
