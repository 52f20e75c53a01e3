use Rattle.std.proofs.Common.{◌≡◌, ◌++◌, take, drop}
use Rattle.aria_cache.specs.Frames.{room, others}
use Rattle.aria_cache.proofs.frames.Frames.remove_slot.Given as goal

abbrev pub invariant-loop-nth : goal.invariant-loop-nth
invariant-loop-nth l = record {
  entries : l.self.cache.entries ≡ drop l._nth l.initial.self.cache.entries ++ others l.slot (take l._nth l.initial.self.cache.entries);
  pins : l.self.pins ≡ l.initial.self.pins;
  room : room l.self ≡ room l.initial.self;
}
