-- From where on the log of a folder is looked at.
use Rattle.std.specs.Prelude.{◌≡◌, ◌⊎◌, ℕ, ◌^◌, ◌<◌, ◌≤◌, None, Some, IsSome, Option, List, count_by}
use Rattle.aria_page.specs.declared.lsn.Lsn.{Lsn}
use Rattle.aria_host.specs.declared.file_name.FileName.{FileName}
use Rattle.aria_host.specs.declared.file_name.FileName.TheVariants.{Log}
use Rattle.aria_host.specs.Folder.{same_file}
use Rattle.aria_control.specs.declared.found.Found.{Found}
use Rattle.aria_control.specs.declared.found.Found.TheVariants.{Fresh, Kept}
use Rattle.aria_log.specs.Pieces.{LogFiles}

-- where redo starts; none is named where nothing was ever stored
abbrev pub redo_of : Found → Lsn
redo_of Fresh = record { file = 0; offset = 0 }
redo_of (Kept control) = control.redo

-- it is the lowest file of the log
pub record IsLowest (files : LogFiles) (low : ℕ) : Type 0 where
  pub there : IsSome (files low)
  pub form : low < 2 ^ 24
  pub none : (f : ℕ) → f < low → files f ≡ None

-- the log has no file
abbrev pub HasNoFile : LogFiles → Type 0
HasNoFile files = (f : ℕ) → f < 2 ^ 24 → files f ≡ None

-- The log is looked at from the first byte of its lowest file on; where it has none, from where redo starts.
abbrev pub IsStart : Found → LogFiles → Lsn → Type 0
IsStart found files start = ((low : ℕ) × IsLowest files low × (start ≡ record { file = low; offset = 16 })) ⊎ (HasNoFile files × (start ≡ redo_of found))

-- it is the lowest number of a log file among these names; or none of them is a log file's
abbrev pub IsLowestOf : Option ℕ → List FileName → Type 0
IsLowestOf None names = (f : ℕ) → count_by (same_file (Log f)) names ≡ 0
IsLowestOf (Some low) names = (1 ≤ count_by (same_file (Log low)) names) × ((f : ℕ) → f < low → count_by (same_file (Log f)) names ≡ 0)
