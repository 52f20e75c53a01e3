-- The frames of a log of which some were collected.
use Rattle.std.specs.Prelude.{ℕ, List, ◌++◌}
use Rattle.aria_journal.specs.Frames.{frames_in}
use Rattle.aria_journal.specs.Front.{Piece, run_rest, frames_of_runs}
use Rattle.aria_journal.specs.Places.{pages_from, frame_pages}

-- the frames collected, those of the run that goes on, and those of the runs that come
unfoldable pub all_frames : List (List ℕ) → List ℕ → List Piece → List (List ℕ)
all_frames frames run pieces = frames ++ (frames_in (run ++ run_rest pieces) ++ frames_of_runs pieces)

-- The pages in which they begin: those of the frames collected are given, the run that goes on has this first page, and the
-- pages that come are numbered from n on.
unfoldable pub all_pages : List ℕ → ℕ → List ℕ → ℕ → List Piece → List ℕ
all_pages starts first run n pieces = starts ++ (pages_from first 0 (frames_in (run ++ run_rest pieces)) ++ frame_pages n pieces)
