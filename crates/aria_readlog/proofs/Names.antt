-- The lowest file of the log, by the names that a folder lists.
use Rattle.std.proofs.Common.{◌≡◌, ◌==◌, inl, inr, ℕ, ◌+◌, ◌^◌, ◌<◌, ◌≤◌, Bool, false, cond, Option, None, Some, List, [], ◌∷◌, ◌++◌, refl, ◌∙◌, ap, arith, rules, zero-add}
use Rattle.std.specs.Prelude.{IsSome, is_some, count_by}
use Rattle.std.proofs.lemmas.List.Sums.{sum_by-append}
use Rattle.aria_host.specs.declared.file_name.FileName.{FileName}
use Rattle.aria_host.specs.declared.file_name.FileName.TheVariants.{Control, Log, Keys, Rows, NewKeys, NewRows}
use Rattle.aria_host.specs.Folder.{Folder, same_file}
use Rattle.aria_host.specs.Calls.{Lists}
use Rattle.aria_host.proofs.Files.{same_file-refl}
use Rattle.aria_control.specs.declared.found.Found.{Found}
use Rattle.aria_log.specs.Pieces.{log_files}
use Rattle.aria_log.proofs.Counting.{differ_above}
use Rattle.aria_readlog.specs.Start.{redo_of, IsStart, IsLowestOf}

-- how often a file is named, with one name more
count_push : (f : ℕ) (names : List FileName) (name : FileName) → count_by (same_file (Log f)) (names ++ name ∷ []) ≡ count_by (same_file (Log f)) names + cond (same_file (Log f) name) 1 0
count_push f names name = sum_by-append (λ (g : FileName). cond (same_file (Log f) g) 1 0) names (name ∷ [])
    ∙ ap (λ (n : ℕ). count_by (same_file (Log f)) names + n) (zero-add (cond (same_file (Log f) name) 1 0))

-- a log file that is named
counted : (file : ℕ) (names : List FileName) → 1 ≤ count_by (same_file (Log file)) (names ++ Log file ∷ [])
counted file names = let one : cond (same_file (Log file) (Log file)) 1 0 ≡ (let n : ℕ = 1 in n) = ap (λ (b : Bool). cond b 1 0) (same_file-refl (Log file)) in
    omega (arith, count_push file names (Log file), one)

-- and a lower one that isn't
below_none : (f file : ℕ) (names : List FileName) → f < file → count_by (same_file (Log f)) names ≡ 0 → count_by (same_file (Log f)) (names ++ Log file ∷ []) ≡ 0
below_none f file names low none = let other : cond (f == file) 1 0 ≡ (let n : ℕ = 0 in n) = ap (λ (b : Bool). cond b 1 0) (differ_above f file low) in
    omega (arith, count_push f names (Log file), none, other)

-- a log file isn't lower than the lowest
pub not_lower : (low file : ℕ) (names : List FileName) → low < file → IsLowestOf (Some low) names → IsLowestOf (Some low) (names ++ Log file ∷ [])
not_lower low file names higher is = (omega (arith, is.0, count_push low names (Log file)), λ f below. below_none f file names (omega (arith, below, higher)) (is.1 f below))

-- one that is
pub lower_is : (low file : ℕ) (names : List FileName) → file ≤ low → IsLowestOf (Some low) names → IsLowestOf (Some file) (names ++ Log file ∷ [])
lower_is low file names lower is = (counted file names, λ f below. below_none f file names below (is.1 f (omega (arith, below, lower))))

-- the first one
pub first_is : (file : ℕ) (names : List FileName) → IsLowestOf None names → IsLowestOf (Some file) (names ++ Log file ∷ [])
first_is file names none = (counted file names, λ f below. below_none f file names below (none f))

-- another file
pub other_is : (low : Option ℕ) (names : List FileName) (name : FileName) → ((f : ℕ) → same_file (Log f) name ≡ false) → IsLowestOf low names → IsLowestOf low (names ++ name ∷ [])
other_is low names name other is = by low is
  where
    same : (f : ℕ) → count_by (same_file (Log f)) (names ++ name ∷ []) ≡ count_by (same_file (Log f)) names
    same f = let no : cond (same_file (Log f) name) 1 0 ≡ (let n : ℕ = 0 in n) = ap (λ (b : Bool). cond b 1 0) (other f) in omega (arith, count_push f names name, no)

    by : (low : Option ℕ) → IsLowestOf low names → IsLowestOf low (names ++ name ∷ [])
    by None none = λ f. same f ∙ none f
    by (Some low) is = (omega (arith, same low, is.0), λ f below. same f ∙ is.1 f below)

-- it isn't a log file's
pub other_name : (name : FileName) → ((file : ℕ) → name ≡ Log file → ⊥) → (f : ℕ) → same_file (Log f) name ≡ false
other_name Control other f = refl
other_name (Log file) other f = absurd (other file refl)
other_name (Keys name) other f = refl
other_name (Rows name) other f = refl
other_name (NewKeys name) other f = refl
other_name (NewRows name) other f = refl

-- ---- in a folder

there : (content : Option (List (List ℕ))) (count : ℕ) → count ≡ cond (is_some content) 1 0 → 1 ≤ count → IsSome content
there None count is some = absurd (omega (arith, is, some))
there (Some pages) count is some = search rules

absent : (content : Option (List (List ℕ))) (count : ℕ) → count ≡ cond (is_some content) 1 0 → count ≡ 0 → content ≡ None
absent None count is none = refl
absent (Some pages) count is none = absurd (omega (arith, is, none))

-- no file of the log is listed
pub start_none : (found : Found) (folder : Folder) (names : List FileName) → Lists folder names → IsLowestOf None names → IsStart found (log_files folder) (redo_of found)
start_none found folder names lists none =
    inr (λ f form. absent (folder (Log f)) (count_by (same_file (Log f)) names) (lists (Log f) form) (none f), refl)

-- this one is the lowest
pub start_some : (found : Found) (folder : Folder) (names : List FileName) (low : ℕ) → low < 2 ^ 24 → Lists folder names → IsLowestOf (Some low) names
    → IsStart found (log_files folder) (record { file = low; offset = 16 })
start_some found folder names low form lists is =
    inl (
      low,
      record {
        there = there (folder (Log low)) (count_by (same_file (Log low)) names) (lists (Log low) form) is.0;
        form = form;
        none = λ f below. absent (folder (Log f)) (count_by (same_file (Log f)) names) (lists (Log f) (let e : f < 2 ^ 24 = omega (arith, below, form) in e)) (is.1 f below);
      },
      refl,
    )
