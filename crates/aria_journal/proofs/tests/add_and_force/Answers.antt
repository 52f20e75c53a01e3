use Rattle.std.proofs.Common.{refl, length}
use Rattle.aria_journal.proofs.tests.add_and_force.Goals as goal

pub add_all-requires-2 : goal.add_all-requires-2
add_all-requires-2 c = let (frames, forced, is) = c.in_ok-taken.ensures in (frames, length frames, c.in_ok-force.ensures.forced refl frames forced is)
