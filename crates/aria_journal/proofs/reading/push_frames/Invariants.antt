use Rattle.std.proofs.Common.{◌≡◌, ◌≤◌, ◌-◌, ◌++◌, length, map}
use Rattle.aria_journal.specs.Frames.{frames_in}
use Rattle.aria_journal.specs.Places.{pages_from}
use Rattle.aria_journal.proofs.reading.push_frames.Given as goal

abbrev pub invariant-loop-frame : goal.invariant-loop-frame
invariant-loop-frame l = record {
  within : length l.rest ≤ length l.fn.bytes;
  frames : map (λ f. f.bytes) l.frames ++ frames_in l.rest ≡ map (λ f. f.bytes) l.fn.frames ++ frames_in l.fn.bytes;
  starts : map (λ f. f.page) l.frames ++ pages_from l.fn.first (length l.fn.bytes - length l.rest) (frames_in l.rest) ≡ map (λ f. f.page) l.fn.frames ++ pages_from l.fn.first 0 (frames_in l.fn.bytes);
}

abbrev pub decreases-loop-frame : goal.decreases-loop-frame
decreases-loop-frame l = length l.rest
