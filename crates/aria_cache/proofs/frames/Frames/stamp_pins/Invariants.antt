use Rattle.aria_page.specs.Lsn.{lsn_number}
use Rattle.std.proofs.Common.{◌≡◌, length}
use Rattle.aria_cache.specs.Frames.{held, count, room, stamp_all}
use Rattle.aria_cache.proofs.frames.Frames.stamp_pins.Given as goal

abbrev pub invariant-loop-key : goal.invariant-loop-key
invariant-loop-key l = record {
  held : stamp_all l.self.pins.items (lsn_number l.lsn) (held l.self) ≡ stamp_all l.initial.self.pins.items (lsn_number l.lsn) (held l.initial.self);
  room : room l.self ≡ room l.initial.self;
  count : count l.self ≡ count l.initial.self;
}

abbrev pub decreases-loop-key : goal.decreases-loop-key
decreases-loop-key l = length l.self.pins.items
