-- Log files that are removed since nothing in them is needed any more.
use Rattle.std.specs.Prelude.{◌≡◌, ◌⊎◌, ℕ, ◌<◌, ◌≤◌, Bool, false, if◌then◌else◌, nat_le, nat_lt, IsTrue, None, List, count_by}
use Rattle.aria_host.specs.declared.file_name.FileName.{FileName}
use Rattle.aria_host.specs.declared.file_name.FileName.TheVariants.{Log}
use Rattle.aria_host.specs.Folder.{Folder, IsFileName, same_file}
use Rattle.aria_host.specs.State.{State, LeavesOnly}

-- it is a file of the log with a number below this
abbrev pub is_log_below : ℕ → FileName → Bool
is_log_below low (Log number) = nat_lt number low
is_log_below low _ = false

-- the folder is the other one without its log files below this number
abbrev pub IsWithout : ℕ → Folder → Folder → Type 0
IsWithout low folder without = (f : FileName) → IsFileName f → without f ≡ (if is_log_below low f then None else folder f)

-- A crash leaves what one before might have left, without its lowest log files: those below a number of at most this one.
pub record IsPurged (below : ℕ) (old : State) (c : Folder) : Type 0 where
  pub image : Folder
  pub left : old.may_leave image
  pub low : ℕ
  pub upto : low ≤ below
  pub without : IsWithout low image c

-- the same, and nothing was told
abbrev pub AtPurge : ℕ → State → Folder → List ℕ → Type 0
AtPurge below old c told = IsPurged below old c × (told ≡ old.out)

-- The log's files below this number are removed, the lowest first, and all other files stay. Where that is done, they are
-- gone in each image too.
pub record Purges (below : ℕ) (old new : State) (done : Bool) : Type 0 where
  pub folder : IsTrue done → IsWithout below old.folder new.folder
  pub part : (low : ℕ) × (low ≤ below) × IsWithout low old.folder new.folder
  pub durable : IsTrue done → (c : Folder) → new.may_leave c → (d : Folder) × old.may_leave d × IsWithout below d c
  pub images : (c : Folder) → new.may_leave c → IsPurged below old c
  pub moments : LeavesOnly old new (AtPurge below old)
  pub out : new.out ≡ old.out
  pub err : new.err ≡ old.err

-- the number of a log file if it isn't below the first, and the end of all other files
abbrev pub number_from : ℕ → ℕ → FileName → ℕ
number_from first end (Log number) = if nat_le first number then number else end
number_from first end _ = end

-- Of the log files among these names none from the first on has a lower number; it is that of one of them, or the end where
-- all are behind.
pub record IsLowest (names : List FileName) (first end lowest : ℕ) : Type 0 where
  pub from : first ≤ lowest
  pub upto : lowest ≤ end
  pub none : (number : ℕ) → first ≤ number → number < lowest → count_by (same_file (Log number)) names ≡ 0
  pub here : (lowest ≡ end) ⊎ (1 ≤ count_by (same_file (Log lowest)) names)
