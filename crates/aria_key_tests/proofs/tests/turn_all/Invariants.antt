use Rattle.std.proofs.Common.{◌≡◌, false, length}
use Rattle.aria_cache.specs.MemPages.{MemStands}
use Rattle.aria_key_tests.proofs.tests.turn_all.Given as goal

abbrev pub invariant-loop-k : goal.invariant-loop-k
invariant-loop-k l = MemStands l.pages × (l.pages.in_group ≡ false) × (length l.there.items ≡ 2000)
