-- The log that the files of a folder hold.
use Rattle.std.specs.Prelude.{◌≡◌, ◌⊎◌, ℕ, ◌+◌, ◌/◌, ◌%◌, ◌^◌, ◌<◌, ◌≤◌, true, false, Some, IsSome, List, length, take}
use Rattle.std.specs.Option.{option_map_or}
use Rattle.aria_log.specs.Pieces.{Piece, Pieces, LogFiles, pieces_of, IsFront}
use Rattle.aria_record.specs.Logged.{Logged}
use Rattle.aria_log.specs.Groups.{groups_from}

-- The log: from this base on the files hold these groups, and the log ends before this page.
pub record HoldsLog (files : LogFiles) (base : ℕ) (groups : List Logged) (end : ℕ) : Type 0 where
  pub pieces : List Piece
  pub front : IsFront (pieces_of files) (base / 8176) true pieces
  pub groups_are : groups ≡ groups_from base pieces
  pub end_is : end ≡ base / 8176 + length pieces

-- the place is a used byte of a valid page
pub record IsUsed (pieces : Pieces) (place : ℕ) : Type 0 where
  pub piece : Piece
  pub valid : pieces (place / 8176) ≡ Some piece
  pub used : place % 8176 < length piece.1

-- the base is the first byte of a page, or a used one
abbrev pub IsBase : Pieces → ℕ → Type 0
IsBase pieces base = (base % 8176 ≡ 0) ⊎ IsUsed pieces base

-- no page from here on begins a run
abbrev pub IsQuiet : Pieces → ℕ → Type 0
IsQuiet pieces end = (n : ℕ) (piece : Piece) → end ≤ n → pieces n ≡ Some piece → piece.0 ≡ false

-- The log that ends before this page isn't damaged from this base on: no file is missing, nor the base's own unless the
-- base is on its first page; none has more than 1024 pages; the base is in the log; and no page behind the end begins a run.
pub record IsSoundLog (files : LogFiles) (base end : ℕ) : Type 0 where
  pub here : IsSome (files (base / 8176 / 1024)) ⊎ (base / 8176 % 1024 ≡ 0)
  pub stand : (f g : ℕ) → base / 8176 / 1024 ≤ f → f < g → g < 2 ^ 24 → IsSome (files g) → IsSome (files f)
  pub few : (f : ℕ) → base / 8176 / 1024 ≤ f → f < 2 ^ 24 → option_map_or length (files f) 0 ≤ 1024
  pub based : IsBase (pieces_of files) base
  pub quiet : IsQuiet (pieces_of files) end

-- The files hold a front of these groups that has the forced ones, and no damage.
pub record HoldsFrom (base : ℕ) (groups : List Logged) (forced : ℕ) (files : LogFiles) : Type 0 where
  pub count : ℕ
  pub from : forced ≤ count
  pub within : count ≤ length groups
  pub end : ℕ
  pub holds : HoldsLog files base (take count groups) end
  pub sound : IsSoundLog files base end
