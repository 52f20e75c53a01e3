use Rattle.std.proofs.Common.{refl}
use Rattle.aria_journal.proofs.tests.add.Goals as goal

pub returns : goal.returns
returns c = let (frames, forced, is) = c.requires in (_, forced, c.in_ok-append.ensures.appended refl frames forced is)
