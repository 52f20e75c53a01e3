-- A run while it is written, and what a crash may leave of it.
use Rattle.std.specs.Prelude.{◌≡◌, ◌⊎◌, ⊤, ℕ, ◌+◌, ◌≤◌, Bool, true, false, Option, None, Some, List, [], ◌∷◌, ◌++◌, length, take, unwrap_or}
use Rattle.aria_journal.specs.LogPage.{read_log_page}
use Rattle.aria_journal.specs.Front.{frames_of, end_of, damaged_at}

-- The pages, numbered from n on, hold these used bytes as one run, or as the rest of one. All are full; of a closed run
-- the last need not be.
abbrev pub IsRun : Bool → ℕ → Bool → List (List ℕ) → List ℕ → Type 0
IsRun closed n begins [] text = text ≡ []
IsRun closed n begins (page ∷ pages) text =
    (bytes : List ℕ) × (rest : List ℕ) × (read_log_page n page ≡ Some (begins, bytes)) × (text ≡ bytes ++ rest)
    × (((closed ≡ true) × (pages ≡ [])) ⊎ (length bytes ≡ 8176)) × IsRun closed (n + 1) false pages rest

-- A crash left these of the written pages, numbered from n on: each is as it was written or isn't valid, and the last
-- ones may be missing.
abbrev pub IsPartOf : ℕ → List (List ℕ) → List (List ℕ) → Type 0
IsPartOf n written [] = ⊤
IsPartOf n [] (page ∷ pages) = ⊥
IsPartOf n (whole ∷ written) (page ∷ pages) = ((page ≡ whole) ⊎ (read_log_page n page ≡ None)) × IsPartOf (n + 1) written pages

-- all the pages are valid and in front, and their log is these frames
pub record IsWhole (pages frames : List (List ℕ)) : Type 0 where
  pub whole : end_of pages ≡ length pages
  pub frames_are : frames_of pages ≡ frames

-- the file, where it is there, holds these frames and no damage
pub record HoldsFrames (content : Option (List (List ℕ))) (frames : List (List ℕ)) : Type 0 where
  pub frames_are : frames_of (unwrap_or content []) ≡ frames
  pub sound : damaged_at (unwrap_or content []) ≡ None

-- the file, where it is there, holds a front of these frames that has the forced ones, and no damage
pub record HoldsFrom (content : Option (List (List ℕ))) (frames : List (List ℕ)) (forced : ℕ) : Type 0 where
  pub count : ℕ
  pub from : forced ≤ count
  pub within : count ≤ length frames
  pub holds : HoldsFrames content (take count frames)

-- whether the page behind the written ones of a run begins that run
abbrev pub begins_next : List (List ℕ) → Bool
begins_next [] = true
begins_next (page ∷ pages) = false
