-- What is found as a store is opened.
use Rattle.std.specs.Prelude.{◌≡◌, ◌⊎◌, ℕ, Bool, true, false, IsTrue, Option, Some, None, List, [], slice_get}
use Rattle.std.specs.List.{All, list_any}
use Rattle.std.specs.declared.cmp.Ordering.TheVariants.{Less}
use Rattle.std.specs.Cmp.Lexicographic.{slice_cmp}
use Rattle.std.specs.Ordering.{nat_cmp}
use Rattle.aria_host.specs.declared.file_name.FileName.{FileName}
use Rattle.aria_host.specs.declared.fault.Fault.{Fault}
use Rattle.aria_host.specs.declared.fault.Fault.TheVariants.{Memory, Disk, LogDamaged}
use Rattle.aria_host.specs.Count.{Rose}
use Rattle.aria_host.specs.FileText.{file_text}
use Rattle.aria_host.specs.Folder.{Folder, IsFileName, same_file}
use Rattle.aria_host.specs.State.{State, LeavesOnly}
use Rattle.aria_host.specs.Calls.{Narrows}
use Rattle.aria_journal.specs.Front.{damaged_at}
use Rattle.aria_journal.specs.Log.{log_file, log_pages, log_of, IsOpened, LogMoments}
use Rattle.aria_model.specs.World.{World, empty_world}
use Rattle.aria_model.specs.Step.{step}
use Rattle.aria_model.specs.Script.{no_exception, world_after}
use Rattle.aria_model.specs.Journal.{is_change, first_no_change}
use Rattle.aria_engine.specs.declared.store.Store.{Store}
use Rattle.aria_engine.specs.Holds.{EachHolds, ReadsAs, IsLineDamage}
use Rattle.aria_engine.specs.Store.{tables_of, IsSilent, StillHolds, OpensAs}

-- of the files seen this one isn't the log's, and no other but the log's comes before it by the bytes of its name
pub record IsLeast (file : FileName) (seen : List FileName) : Type 0 where
  pub form : IsFileName file
  pub among : list_any (same_file file) seen ≡ true
  pub other : same_file log_file file ≡ false
  pub least : All (λ f. same_file log_file f ≡ false → slice_cmp nat_cmp (file_text f) (file_text file) ≡ Less → ⊥) seen

-- the first of the files seen other than the log's, if there is one
abbrev pub IsFirst : Option FileName → List FileName → Type 0
IsFirst None seen = All (λ f. same_file log_file f ≡ true) seen
IsFirst (Some file) seen = IsLeast file seen

-- a line was executed anew: whether it changed the tables, and what it left then
pub record Redoes (line : List ℕ) (old new : World) (changed : Bool) : Type 0 where
  pub is : changed ≡ is_change old line None
  pub world : changed ≡ true → new ≡ (step old line None).world

-- lines were executed anew: each changed the tables, and this is left
pub record Replays (lines : List (List ℕ)) (world : World) : Type 0 where
  pub changes : first_no_change empty_world lines ≡ None
  pub leaves : world ≡ world_after empty_world lines no_exception

-- a line that begins in this page changes nothing
pub record FailsAt (lines : List (List ℕ)) (pages : List ℕ) (page : ℕ) : Type 0 where
  pub nth : ℕ
  pub line : first_no_change empty_world lines ≡ Some nth
  pub begins : slice_get pages nth ≡ Some page

-- why the lines of a log give no tables
abbrev pub HasReplayCause : Fault → List (List ℕ) → List ℕ → Type 0
HasReplayCause (Memory error) lines pages = Unit {0}
HasReplayCause (LogDamaged file page) lines pages = (file ≡ 1) × FailsAt lines pages page
HasReplayCause _ lines pages = ⊥

-- the store has the tables of a log that was found and isn't started
pub record Recovered (store : Store) (folder : Folder) : Type 0 where
  pub opened : IsOpened store.log folder
  pub replays : Replays (log_of folder) (tables_of store)

-- the log is damaged at this page, or a line begins in it that changes no tables
abbrev pub IsLogDamage : ℕ → Folder → Type 0
IsLogDamage page folder = (damaged_at (log_pages folder) ≡ Some page) ⊎ IsLineDamage page folder

-- why a log gives no store
abbrev pub HasLogCause : Bool → Fault → State → State → Type 0
HasLogCause tells (Memory error) old new = Unit {0}
HasLogCause tells Disk old new = Rose old.disk_faults new.disk_faults
HasLogCause tells (LogDamaged file page) old new = IsTrue tells → (file ≡ 1) × IsLogDamage page old.folder × Narrows old new
HasLogCause tells _ old new = ⊥

-- At most the log's file is changed, in the folder and in what a crash at any moment may leave, and nothing is told.
abbrev pub ChangesLogAlone : State → State → Type 0
ChangesLogAlone old new = LogMoments old new (λ content. Unit {0})

-- At each moment each image holds the tables that all images held before, and nothing is told. Whatever they held, at
-- most the log's file is changed.
pub record Keeps (old new : State) : Type 0 where
  pub moments : (world : World) → EachHolds old world → LeavesOnly old new (StillHolds world old.out)
  pub each : (world : World) → EachHolds old world → EachHolds new world
  pub silent : IsSilent old new
  pub others : ChangesLogAlone old new

-- A folder that reads as some tables is opened, whatever a crash might have left of it: meanwhile a crash leaves that or
-- these tables, and once it is done these tables alone.
pub record Opens (old new : State) (done : Bool) : Type 0 where
  pub moments : (world : World) → ReadsAs old world → LeavesOnly old new (OpensAs old world)
  pub each : (world : World) → ReadsAs old world → IsTrue done → EachHolds new world

-- the log's pages are as they were: nothing was changed, or an empty file was made
abbrev pub SameLog : State → State → Type 0
SameLog old new = Narrows old new ⊎ ((log_pages old.folder ≡ []) × (log_pages new.folder ≡ []))

-- the log that was found holds these tables
pub record HoldsLog (folder : Folder) (world : World) : Type 0 where
  pub sound : damaged_at (log_pages folder) ≡ None
  pub replays : Replays (log_of folder) world
