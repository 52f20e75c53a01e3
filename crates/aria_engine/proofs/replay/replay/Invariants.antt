use Rattle.std.proofs.Common.{map, take}
use Rattle.aria_journal.specs.declared.opened.Frame.{Frame}
use Rattle.aria_memory.specs.Worlds.{world_of}
use Rattle.aria_engine.specs.Opening.{Replays}
use Rattle.aria_engine.proofs.replay.replay.Given as goal

abbrev pub invariant-loop-frame : goal.invariant-loop-frame
invariant-loop-frame l = Replays (map (λ (f : Frame). f.bytes) (take l.frame-index l.frames)) (world_of l.tables)
