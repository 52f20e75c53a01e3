-- What the log's pages hold, by their numbers: page p of file f has number 1024 * f + p.
use Rattle.std.specs.Prelude.{◌≡◌, ◌==◌, ◌||◌, if◌then◌else◌, ⊤, ℕ, ◌+◌, ◌/◌, ◌%◌, Bool, Option, None, Some, List, [], ◌∷◌, length, option_and_then}
use Rattle.aria_host.specs.declared.file_name.FileName.TheVariants.{Log}
use Rattle.aria_host.specs.Folder.{Folder}
use Rattle.aria_host.specs.Seen.{page_or_zero}
use Rattle.aria_log.specs.LogPage.{read_log_page}

-- what a valid page holds: whether it begins a run, and its used bytes
abbrev pub Piece : Type 0
Piece = Bool × List ℕ

-- what the pages hold: nothing where a page isn't there or isn't valid
abbrev pub Pieces : Type 0
Pieces = ℕ → Option Piece

-- the log's files, by their numbers
abbrev pub LogFiles : Type 0
LogFiles = ℕ → Option (List (List ℕ))

abbrev pub log_files : Folder → LogFiles
log_files folder = λ f. folder (Log f)

-- Zeros hold nothing, so a page past the end, in a file that isn't there, or made ahead is the same as none.
unfoldable pub pieces_of : LogFiles → Pieces
pieces_of files n = read_log_page n (page_or_zero (n % 1024) (files (n / 1024)))

-- no byte of the page is left
abbrev pub is_full : Piece → Bool
is_full piece = length piece.1 == 8176

-- the piece of this page, where it begins a run or may go on with one
unfoldable pub next_piece : Pieces → ℕ → Bool → Option Piece
next_piece pieces n may = option_and_then (λ piece. if piece.0 || may then Some piece else None) (pieces n)

-- These pieces stand from page n on: each begins a run or goes on with a full page. The first one may go on with what
-- stands before it, or not.
abbrev pub Stand : Pieces → ℕ → Bool → List Piece → Type 0
Stand pieces n may [] = ⊤
Stand pieces n may (p ∷ ps) = (next_piece pieces n may ≡ Some p) × Stand pieces (n + 1) (is_full p) ps

-- whether the page behind these may go on with them
abbrev pub may_behind : Bool → List Piece → Bool
may_behind may [] = may
may_behind may (p ∷ ps) = may_behind (is_full p) ps

-- The valid front from page n on: these pieces stand, and none goes on with them.
pub record IsFront (pieces : Pieces) (n : ℕ) (may : Bool) (ps : List Piece) : Type 0 where
  pub stand : Stand pieces n may ps
  pub end : next_piece pieces (n + length ps) (may_behind may ps) ≡ None
