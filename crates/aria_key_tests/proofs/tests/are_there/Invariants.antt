use Rattle.std.proofs.Common.{◌≡◌, false}
use Rattle.aria_cache.specs.MemPages.{MemStands}
use Rattle.aria_key_tests.proofs.tests.are_there.Given as goal

abbrev pub invariant-loop-n : goal.invariant-loop-n
invariant-loop-n l = MemStands l.pages × (l.pages.in_group ≡ false)
