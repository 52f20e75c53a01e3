-- The pages of the log's file in which its frames begin.
use Rattle.std.specs.Prelude.{if◌then◌else◌, ℕ, ◌+◌, ◌*◌, ◌/◌, ◌≤◌, false, List, [], ◌∷◌, ◌++◌, length, map}
use Rattle.aria_journal.specs.Frames.{frames_in}
use Rattle.aria_journal.specs.Front.{Piece, front, run_rest}

-- Frames that stand one behind the other begin at these bytes: the first at byte `at`, and each other behind the 4 bytes
-- of length and the bytes of the one before.
unfoldable pub bytes_from : ℕ → List (List ℕ) → List ℕ
bytes_from at [] = []
bytes_from at (frame ∷ frames) = at ∷ bytes_from (at + (4 + length frame)) frames

-- The pages in which they begin, of a run whose first page has number n. All its pages but the last have 8176 bytes of it.
unfoldable pub pages_from : ℕ → ℕ → List (List ℕ) → List ℕ
pages_from n at frames = map (λ byte. n + byte / 8176) (bytes_from at frames)

-- the pages in which the frames of each run begin, where the pages are numbered from n on
unfoldable pub frame_pages : ℕ → List Piece → List ℕ
frame_pages n [] = []
frame_pages n (piece ∷ pieces) = if piece.0 then pages_from n 0 (frames_in (piece.1 ++ run_rest pieces)) ++ frame_pages (n + 1) pieces else frame_pages (n + 1) pieces

-- the page in which each frame of the log begins, in the order of the frames
unfoldable pub frame_pages_of : List (List ℕ) → List ℕ
frame_pages_of pages = frame_pages 0 (front 0 false pages)

-- a run of these bytes, whose first page has number `first`, ends before page n
abbrev pub EndsBefore : ℕ → List ℕ → ℕ → Type 0
EndsBefore first run n = 8176 * first + length run ≤ 8176 * n
