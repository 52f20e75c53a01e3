-- How the images change by one call.
use Rattle.std.specs.Prelude.{◌≡◌, ◌⊎◌, ℕ, Bool, false, IsTrue, Option, List, length}
use Rattle.aria_page.specs.Page.{Sums}
use Rattle.aria_host.specs.declared.file_name.FileName.{FileName}
use Rattle.aria_host.specs.Folder.{Folder, is_log, with_file, with_page, with_cut}
use Rattle.aria_host.specs.State.{State}

-- each image now is an earlier one after a step
abbrev pub Follows : (Folder → Folder → Type 0) → State → State → Type 0
Follows step old new = (c : Folder) → new.may_leave c → (d : Folder) × old.may_leave d × step d c

-- A write is lost or kept. A page of the log may also be torn: it holds any bytes whose checksum doesn't fit.
abbrev pub MayWrite : FileName → ℕ → List ℕ → Folder → Folder → Type 0
MayWrite file at page before after =
    (after ≡ before) ⊎ ((after ≡ with_page file at page before)
    ⊎ (IsTrue (is_log file) × (torn : List ℕ) × (length torn ≡ 8192) × (¬ Sums torn) × (after ≡ with_page file at torn before)))

-- a cut is lost or kept
abbrev pub MayCut : FileName → ℕ → Folder → Folder → Type 0
MayCut file pages before after = (after ≡ before) ⊎ (after ≡ with_cut file pages before)

-- A file is made or removed for good once the call has answered Ok, and else it is or it isn't.
abbrev pub MayMake : FileName → Option (List (List ℕ)) → Bool → Folder → Folder → Type 0
MayMake file content done before after = (after ≡ with_file file content before) ⊎ ((done ≡ false) × (after ≡ before))
