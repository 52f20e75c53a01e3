use Rattle.std.proofs.Common.{◌≡◌, ◌++◌}
use Rattle.aria_cache.specs.Frames.{dirty_keys}
use Rattle.aria_cache.proofs.frames.Frames.dirty.Given as goal

abbrev pub invariant-loop-key : goal.invariant-loop-key
invariant-loop-key l = l.keys.items ++ dirty_keys l.key-iterator ≡ dirty_keys l.self.cache.entries
