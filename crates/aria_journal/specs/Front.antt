-- The log that the pages of its file hold.
use Rattle.std.specs.Prelude.{◌==◌, ◌||◌, if◌then◌else◌, ℕ, ◌+◌, Bool, false, Option, None, Some, List, [], ◌∷◌, ◌++◌, length, drop}
use Rattle.std.specs.List.{flat_map}
use Rattle.std.specs.Option.{option_map_or}
use Rattle.aria_page.specs.Field.{◌>>=◌}
use Rattle.aria_journal.specs.LogPage.{read_log_page}
use Rattle.aria_journal.specs.Frames.{frames_in}

-- what a page of a run holds: whether it begins the run, and its used bytes
abbrev pub Piece : Type 0
Piece = Bool × List ℕ

-- no byte of the page is left
abbrev pub is_full : Piece → Bool
is_full piece = length piece.1 == 8176

-- a valid page that begins a run, or may go on with one
unfoldable pub piece_at : ℕ → Bool → List ℕ → Option Piece
piece_at n may page = do
  piece ← read_log_page n page
  if piece.0 || may then Some piece else None

-- The valid front of pages that are numbered from n on: up to the first page that isn't valid, or that neither begins a
-- run nor goes on with a full page. The first may go on with the page before it or not.
unfoldable pub front : ℕ → Bool → List (List ℕ) → List Piece
front n may [] = []
front n may (page ∷ pages) = option_map_or (λ piece. piece ∷ front (n + 1) (is_full piece) pages) (piece_at n may page) []

-- the used bytes up to the next page that begins a run
unfoldable pub run_rest : List Piece → List ℕ
run_rest [] = []
run_rest (piece ∷ pieces) = if piece.0 then [] else piece.1 ++ run_rest pieces

-- the runs: the used bytes from one page that begins a run up to the next
unfoldable pub runs : List Piece → List (List ℕ)
runs [] = []
runs (piece ∷ pieces) = if piece.0 then (piece.1 ++ run_rest pieces) ∷ runs pieces else runs pieces

-- the whole frames of each run; what stands behind them in the run is void
unfoldable pub frames_of_runs : List Piece → List (List ℕ)
frames_of_runs pieces = flat_map frames_in (runs pieces)

-- the log of a file of these pages: its frames
unfoldable pub frames_of : List (List ℕ) → List (List ℕ)
frames_of pages = frames_of_runs (front 0 false pages)

-- where the log ends: the number of pages of its valid front
unfoldable pub end_of : List (List ℕ) → ℕ
end_of pages = length (front 0 false pages)

-- one of these pages, numbered from n on, is valid and begins a run
unfoldable pub begins_behind : ℕ → List (List ℕ) → Bool
begins_behind n [] = false
begins_behind n (page ∷ pages) = option_map_or (λ piece. piece.0) (read_log_page n page) false || begins_behind (n + 1) pages

-- The page at which the log is damaged: the first behind the valid front, where a valid page behind it begins a run.
unfoldable pub damaged_at : List (List ℕ) → Option ℕ
damaged_at pages = if begins_behind (end_of pages) (drop (end_of pages) pages) then Some (end_of pages) else None
