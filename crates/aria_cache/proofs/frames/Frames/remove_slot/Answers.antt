use Rattle.std.proofs.Common.{◌∙◌, ◌==◌, ◌/◌, ◌^◌, ◌<◌, ◌≤◌, ap, ℕ, List, length, arith}
use Rattle.aria_cache.specs.declared.frames.Frame.{Frame}
use Rattle.aria_cache.specs.Frames.{shown, turned}
use Rattle.aria_cache.proofs.Entries.{map_of, without_keys}
use Rattle.aria_cache.proofs.Turning.{turns, turned_all, fewer}
use Rattle.aria_cache.proofs.frames.Frames.remove_slot.Goals as goal

pub loop-nth-preserved : goal.loop-nth-preserved
loop-nth-preserved c =
    let es : List (ℕ × Frame) = c.args.self.now.cache.entries in
    let low : c.loop-nth._nth < length es = omega arith in
    record {
      entries = c.turn.ensures.entries ∙ ap (turned c.args.slot) c.loop-nth.invariant.entries ∙ turns c.args.slot es c.loop-nth._nth low;
      pins = c.turn.ensures.pins ∙ c.loop-nth.invariant.pins;
      room = c.turn.ensures.room ∙ c.loop-nth.invariant.room;
    }

pub returns-clause-order : goal.returns-clause-order
returns-clause-order c =
    let es : List (ℕ × Frame) = c.args.self.now.cache.entries in
    let all : length es ≤ c.loop-nth._nth = omega arith in
    c.loop-nth.invariant.entries ∙ turned_all c.args.slot es c.loop-nth._nth all

pub returns-clause-held : goal.returns-clause-held
returns-clause-held c = ap (map_of shown) (returns-clause-order c) ∙ without_keys shown (λ k. k / 2 ^ 32 == c.args.slot) c.args.self.now.cache.entries

pub returns-clause-count : goal.returns-clause-count
returns-clause-count c = rw (returns-clause-order c) (fewer c.args.slot c.args.self.now.cache.entries)
