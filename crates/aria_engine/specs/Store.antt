-- A store between its statements.
use Rattle.std.specs.Prelude.{◌≡◌, ◌⊎◌, ℕ, ◌+◌, ◌≤◌, [], ◌==◌, if◌then◌else◌, IsTrue, Bool, Option, None, List, length}
use Rattle.aria_host.specs.declared.fault.Fault.{Fault}
use Rattle.aria_host.specs.declared.fault.Fault.TheVariants.{Memory, Disk, Tell, NotOurs, LogDamaged}
use Rattle.aria_host.specs.Count.{Rose}
use Rattle.aria_host.specs.State.{Folder, State}
use Rattle.aria_host.specs.Calls.{Narrows}
use Rattle.aria_journal.specs.Log.{IsLog}
use Rattle.aria_model.specs.World.{World, empty_world}
use Rattle.aria_model.specs.declared.refusal.Exception.{Exception}
use Rattle.aria_model.specs.Script.{no_exception, world_after}
use Rattle.aria_model.specs.Journal.{first_no_change, met_at}
use Rattle.aria_memory.specs.Worlds.{world_of}
use Rattle.aria_engine.specs.declared.store.Store.{Store}
use Rattle.aria_engine.specs.Holds.{Holds, IsDamage}

-- the tables of a store
abbrev pub tables_of : Store → World
tables_of store = world_of store.tables

-- how many statements it has executed
abbrev pub count_of : Store → ℕ
count_of store = store.tally.count

-- the exception that the statement of this number met, if any
abbrev pub met_of : Store → ℕ → Option Exception
met_of store nth = met_at store.tally.met nth

-- how many pages the log has once all is forced
abbrev pub pages_of : Store → ℕ
pages_of store = store.log.number + (if store.log.used == 0 then 0 else 1)

-- The store's tables are those that the lines of its log leave. All of them are forced.
pub record IsRunning (store : Store) (s : State) : Type 0 where
  pub lines : List (List ℕ)
  pub log : IsLog store.log s lines (length lines)
  pub changes : first_no_change empty_world lines ≡ None
  pub tables : tables_of store ≡ world_after empty_world lines no_exception

-- No statement was executed yet, and no fault was answered.
pub record IsFresh (store : Store) : Type 0 where
  pub count : count_of store ≡ 0
  pub met : store.tally.met ≡ []
  pub kept : store.kept ≡ None

-- no fault was counted
pub record SameFaults (old new : State) : Type 0 where
  pub disk : new.disk_faults ≡ old.disk_faults
  pub tell : new.tell_faults ≡ old.tell_faults

-- the counts of faults didn't fall
pub record NoFewerFaults (old new : State) : Type 0 where
  pub disk : old.disk_faults ≤ new.disk_faults
  pub tell : old.tell_faults ≤ new.tell_faults

-- nothing is told
pub record IsSilent (old new : State) : Type 0 where
  pub out : new.out ≡ old.out
  pub err : new.err ≡ old.err

-- The cause of a fault as a store is opened: the disk failed, memory is short, or this damage stands in the folder,
-- in which nothing is changed.
abbrev pub HasOpenCause : Bool → Fault → State → State → Type 0
HasOpenCause tells (Memory error) old new = Unit {0}
HasOpenCause tells Disk old new = Rose old.disk_faults new.disk_faults
HasOpenCause tells (LogDamaged file page) old new = IsTrue tells → IsDamage (LogDamaged file page) old.folder × Narrows old new
HasOpenCause tells (NotOurs file) old new = IsTrue tells → IsDamage (NotOurs file) old.folder × Narrows old new
HasOpenCause tells _ old new = ⊥

-- a crash leaves these tables, with nothing more told
abbrev pub StillHolds : World → List ℕ → Folder → List ℕ → Type 0
StillHolds world out c b = Holds c world × (b ≡ out)

-- a crash leaves what one might have left at first, or these tables, with nothing more told
abbrev pub OpensAs : State → World → Folder → List ℕ → Type 0
OpensAs old world c b = (old.may_leave c ⊎ Holds c world) × (b ≡ old.out)

-- the cause of a fault of a store that runs: the disk or a stream failed, or memory is short
abbrev pub HasCause : Fault → State → State → Type 0
HasCause (Memory error) old new = Unit {0}
HasCause Disk old new = Rose old.disk_faults new.disk_faults
HasCause Tell old new = Rose old.tell_faults new.tell_faults
HasCause _ old new = ⊥
