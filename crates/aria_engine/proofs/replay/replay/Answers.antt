use Rattle.std.proofs.Common.{ℕ, List, subst}
use Rattle.aria_memory.specs.Worlds.{world_of}
use Rattle.aria_engine.specs.Opening.{Redoes}
use Rattle.aria_engine.proofs.Replaying.{replays_next, fails_here}
use Rattle.aria_engine.proofs.replay.replay.Goals as goal

pub returns-then-not-branch : goal.returns-then-not-branch
returns-then-not-branch c =
    fails_here c.args.frames.now c.loop-frame.frame-index c.frame-item.result (world_of c.loop-frame.tables) (world_of c.redo.new.tables) c.in_ok-redo.field-0 c.loop-frame-test.true c.frame-item.is
    c.loop-frame.invariant
    (subst (λ (line : List ℕ). Redoes line (world_of c.loop-frame.tables) (world_of c.redo.new.tables) c.in_ok-redo.field-0) c.as_slice.ensures c.in_ok-redo.ensures)
    c.if-not-branch.true

pub loop-frame-preserved : goal.loop-frame-preserved
loop-frame-preserved c =
    replays_next c.args.frames.now c.loop-frame.frame-index c.frame-item.result (world_of c.loop-frame.tables) (world_of c.redo.new.tables) c.in_ok-redo.field-0 c.loop-frame-test.true c.frame-item.is
    c.loop-frame.invariant
    (subst (λ (line : List ℕ). Redoes line (world_of c.loop-frame.tables) (world_of c.redo.new.tables) c.in_ok-redo.field-0) c.as_slice.ensures c.in_ok-redo.ensures)
    c.if-not-branch.false
