use Rattle.std.proofs.Common.{◌≡◌, false}
use Rattle.aria_cache.specs.MemPages.{MemStands}
use Rattle.aria_key_tests.proofs.tests.take_even.Given as goal

abbrev pub invariant-loop-i : goal.invariant-loop-i
invariant-loop-i l = MemStands l.pages × (l.pages.in_group ≡ false)
