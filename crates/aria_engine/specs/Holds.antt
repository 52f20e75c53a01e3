-- Which tables a folder holds, and what stands in the way of that.
use Rattle.std.specs.Prelude.{◌≡◌, ◌⊎◌, ℕ, false, None, Some, IsSome, slice_get, length}
use Rattle.std.specs.declared.cmp.Ordering.TheVariants.{Less}
use Rattle.std.specs.Cmp.Lexicographic.{slice_cmp}
use Rattle.std.specs.Ordering.{nat_cmp}
use Rattle.aria_host.specs.declared.file_name.FileName.{FileName}
use Rattle.aria_host.specs.declared.fault.Fault.{Fault}
use Rattle.aria_host.specs.declared.fault.Fault.TheVariants.{NotOurs, LogDamaged}
use Rattle.aria_host.specs.FileText.{file_text}
use Rattle.aria_host.specs.Folder.{Folder, IsFileName, same_file}
use Rattle.aria_host.specs.State.{State}
use Rattle.aria_journal.specs.Front.{damaged_at, end_of}
use Rattle.aria_journal.specs.Places.{frame_pages_of}
use Rattle.aria_journal.specs.Log.{log_file, log_pages, log_of}
use Rattle.aria_model.specs.World.{World, empty_world}
use Rattle.aria_model.specs.Script.{no_exception, world_after}
use Rattle.aria_model.specs.Journal.{first_no_change}

-- no file is there but the log's
abbrev pub IsLogAlone : Folder → Type 0
IsLogAlone folder = (f : FileName) → IsFileName f → same_file log_file f ≡ false → folder f ≡ None

-- The folder holds these tables: the log is its one file and isn't damaged, each frame of it is a line that changes the
-- tables that those before it left, and these tables are what they all leave.
pub record Holds (folder : Folder) (world : World) : Type 0 where
  pub alone : IsLogAlone folder
  pub sound : damaged_at (log_pages folder) ≡ None
  pub changes : first_no_change empty_world (log_of folder) ≡ None
  pub world_is : world ≡ world_after empty_world (log_of folder) no_exception

-- each folder that a crash now may leave holds these tables
abbrev pub EachHolds : State → World → Type 0
EachHolds s world = (c : Folder) → s.may_leave c → Holds c world

-- the folder holds some tables
abbrev pub HoldsSome : Folder → Type 0
HoldsSome folder = (world : World) × Holds folder world

-- each folder that a crash now may leave holds some tables, which need not be those of another
abbrev pub EachHoldsSome : State → Type 0
EachHoldsSome s = (c : Folder) → s.may_leave c → HoldsSome c

-- each of them has no file but the log's
abbrev pub AreLogAlone : State → Type 0
AreLogAlone s = (c : Folder) → s.may_leave c → IsLogAlone c

-- The folder as it reads holds these tables, and no folder that a crash now may leave has a file but the log's. What
-- stands in the log of one that a crash may leave isn't said.
pub record ReadsAs (s : State) (world : World) : Type 0 where
  pub holds : Holds s.folder world
  pub alone : AreLogAlone s

-- the first of the files other than the log's, by the bytes of its name
pub record IsFirstOther (file : FileName) (folder : Folder) : Type 0 where
  pub form : IsFileName file
  pub other : same_file log_file file ≡ false
  pub there : IsSome (folder file)
  pub first : (f : FileName) → IsFileName f → same_file log_file f ≡ false → IsSome (folder f) → slice_cmp nat_cmp (file_text f) (file_text file) ≡ Less → ⊥

-- A line of the log that isn't damaged changes no tables; it begins in this page.
pub record IsLineDamage (page : ℕ) (folder : Folder) : Type 0 where
  pub sound : damaged_at (log_pages folder) ≡ None
  pub nth : ℕ
  pub line : first_no_change empty_world (log_of folder) ≡ Some nth
  pub begins : slice_get (frame_pages_of (log_pages folder)) nth ≡ Some page

-- The damage of a folder: another file is there; else the log is damaged at this page, or a line begins in it that
-- changes no tables.
abbrev pub IsDamage : Fault → Folder → Type 0
IsDamage (NotOurs file) folder = IsFirstOther file folder
IsDamage (LogDamaged file page) folder = (file ≡ 1) × IsLogAlone folder × ((damaged_at (log_pages folder) ≡ Some page) ⊎ IsLineDamage page folder)
IsDamage _ folder = ⊥

-- a crash now leaves what a read gives
abbrev pub AtRest : State → Type 0
AtRest s = (c : Folder) → s.may_leave c → (f : FileName) → IsFileName f → c f ≡ s.folder f

-- the log's file ends where the log does
abbrev pub IsSettled : Folder → Type 0
IsSettled folder = end_of (log_pages folder) ≡ length (log_pages folder)
