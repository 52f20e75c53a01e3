-- What calls do that make or drop the files of tables.
use Rattle.std.specs.Prelude.{◌≡◌, ◌⊎◌, if◌then◌else◌, ℕ, ◌-◌, ◌*◌, ◌^◌, ◌<◌, ◌≤◌, Bool, true, false, IsTrue, nat_eq, Option, None, Some, is_some, List, [], ◌∷◌, ◌++◌, length, slice_get, Result, IfErr, IsErrOf, OnOk, alloc_error}
use Rattle.std.specs.Option.{option_map_or}
use Rattle.std.specs.BTreeMap.{BTreeMap}
use Rattle.aria_page.specs.declared.lsn.Lsn.{Lsn}
use Rattle.aria_page.specs.declared.place.Part.{Part}
use Rattle.aria_page.specs.declared.place.Part.TheVariants.{Keys, Rows}
use Rattle.aria_page.specs.Lsn.{IsLsn, lsn_number}
use Rattle.aria_page.specs.Page.{Sums, page_body}
use Rattle.aria_value.specs.declared.definition.Definition.{Definition}
use Rattle.aria_value.specs.Header.{first_index_page, first_data_page}
use Rattle.aria_value.specs.Reading.{read_definition}
use Rattle.aria_value.specs.Stored.{definition_bytes}
use Rattle.aria_value.specs.Named.{same_name}
use Rattle.aria_host.specs.Count.{Rose}
use Rattle.aria_host.specs.declared.fault.Fault.{Fault}
use Rattle.aria_host.specs.declared.fault.Fault.TheVariants.{Memory, Disk, LogSpent, TooManyTables}
use Rattle.aria_host.specs.Folder.{Folder}
use Rattle.aria_host.specs.State.{State}
use Rattle.aria_record.specs.Logged.{Logged}
use Rattle.aria_record.specs.declared.group_writer.GroupWriter.{GroupWriter}
use Rattle.aria_log.specs.declared.log.Log.{Log as LogValue}
use Rattle.aria_log.specs.Log.{IsLog}
use Rattle.aria_cache.specs.declared.frames.Frames.{Frames}
use Rattle.aria_cache.specs.Frames.{held, without_slot}
use Rattle.aria_recovery.specs.Tables.{Maker, life_of, made_page, file}
use Rattle.aria_recovery.specs.Images.{AreImages, Raises, SameNames}
use Rattle.aria_recovery.specs.Moves.{Moves}
use Rattle.aria_pager.specs.declared.page_store.PageStore.{PageStore}
use Rattle.aria_pager.specs.declared.slot.Slot.{Slot}
use Rattle.aria_pager.specs.declared.new_table.NewTable.{NewTable}
use Rattle.aria_pager.specs.PageStore.{name_at, sizes_at, opened, set_at}
use Rattle.aria_pager.specs.Pager.{NamesBase, HasFront, HaveFronts, known, next_number}
use Rattle.aria_pager.specs.Turns.{Turns, Turned, only}
use Rattle.aria_pager.specs.View.{size_in}

-- ---- what memory knows of tables

-- a slot that stands for no table any more
abbrev pub unused : Slot → Slot
unused slot = record { name = slot.name; used = false; keys = slot.keys; rows = slot.rows }

-- the slots, of which that one is unused
abbrev pub freed : List Slot → ℕ → List Slot
freed slots n = option_map_or (λ slot. set_at slots n (unused slot)) (slice_get slots n) slots

-- The slot is unused, and nothing is held of its pages.
pub record LeavesSlot (n : ℕ) (store store' : PageStore) : Type 0 where
  pub held : held store'.frames ≡ without_slot n (held store.frames)
  pub pins : store'.frames.pins ≡ store.frames.pins
  pub slots : store'.slots ≡ freed store.slots n

-- the same of what stood for a table, where a slot did
abbrev pub Leaves : Option (Option ℕ) → PageStore → PageStore → Type 0
Leaves (Some (Some n)) store store' = LeavesSlot n store store'
Leaves (Some None) store store' = (store'.frames ≡ store.frames) × (store'.slots ≡ store.slots)
Leaves None store store' = (store'.frames ≡ store.frames) × (store'.slots ≡ store.slots)

-- A table is known no more, and nothing is held of it.
pub record Forgets (name : List ℕ) (store store' : PageStore) : Type 0 where
  pub knows : (q : List ℕ) → known store' q ≡ (if same_name name q then None else known store q)
  pub leaves : Leaves (known store name) store store'

-- the slots' names but for one
abbrev pub without_name : List ℕ → (ℕ → Option (List ℕ)) → ℕ → Option (List ℕ)
without_name name names n = if option_map_or (same_name name) (names n) false then None else names n

-- No slot stands for another table than before, and the files have as many pages.
pub record FewerSlots (store store' : PageStore) : Type 0 where
  pub names : (n : ℕ) (name : List ℕ) → name_at store' n ≡ Some name → name_at store n ≡ Some name
  pub sizes : sizes_at store' ≡ sizes_at store

-- the same with other frames, slots and tables
abbrev pub with_tables : PageStore → Frames → List Slot → BTreeMap (List ℕ) (Option ℕ) → PageStore
with_tables store frames slots tables = record {
  log = store.log;
  started = store.started;
  frames = frames;
  writer = store.writer;
  in_group = store.in_group;
  made = store.made;
  slots = slots;
  tables = tables;
  pending = store.pending;
  lent = store.lent;
  kept = store.kept;
  blank = store.blank;
}

-- the same with another log and another open group, too
abbrev pub with_filed : PageStore → LogValue → GroupWriter → Frames → List Slot → BTreeMap (List ℕ) (Option ℕ) → PageStore
with_filed store log writer frames slots tables = record {
  log = log;
  started = store.started;
  frames = frames;
  writer = writer;
  in_group = store.in_group;
  made = store.made;
  slots = slots;
  tables = tables;
  pending = store.pending;
  lent = store.lent;
  kept = store.kept;
  blank = store.blank;
}

-- the open group, and what is pending and lent stay
pub record SameUse (store store' : PageStore) : Type 0 where
  pub in_group : store'.in_group ≡ store.in_group
  pub made : store'.made ≡ store.made
  pub pending : store'.pending ≡ store.pending
  pub lent : store'.lent ≡ store.lent

-- a slot that stands for no table yet
abbrev pub empty_slot : List ℕ → Slot
empty_slot name = record { name = name; used = false; keys = record { written = 0; pages = 0 }; rows = record { written = 0; pages = 0 } }

-- Such a slot was added behind the others, or none was.
pub record Reserves (store store' : PageStore) : Type 0 where
  pub slots : (store'.slots ≡ store.slots) ⊎ ((name : List ℕ) × (store'.slots ≡ store.slots ++ empty_slot name ∷ []))

-- a slot that stands for a table as it is made: each file has one page
abbrev pub first_slot : List ℕ → Slot
first_slot name = record { name = name; used = true; keys = record { written = 1; pages = 1 }; rows = record { written = 1; pages = 1 } }

-- each slot of a number below 2^32 - 1 stands for a table
abbrev pub AreTaken : PageStore → Type 0
AreTaken store = (n : ℕ) → n < 2 ^ 32 - 1 → IsTrue (is_some (name_at store n))

-- the same with other slots
abbrev pub with_slots : PageStore → List Slot → PageStore
with_slots store slots = with_tables store store.frames slots store.tables

-- the table as the group makes it
abbrev pub maker_of : Lsn → List ℕ → Maker
maker_of created stored = record { at = created; plain = false; definition = stored; format = 1 }

-- the same with another log, which is started or isn't, and other slots
abbrev pub with_ready : PageStore → Bool → LogValue → List Slot → PageStore
with_ready store started log slots = record {
  log = log;
  started = started;
  frames = store.frames;
  writer = store.writer;
  in_group = store.in_group;
  made = store.made;
  slots = slots;
  tables = store.tables;
  pending = store.pending;
  lent = store.lent;
  kept = store.kept;
  blank = store.blank;
}

-- the table of which this is written
abbrev pub maker_in : NewTable → Maker
maker_in table = maker_of table.created table.stored

-- the first page of each of its files
abbrev pub first_page : Definition → Lsn → Part → List ℕ
first_page d created Keys = first_index_page d false created 1
first_page d created Rows = first_data_page false created

-- What is written of a new table: its stored definition, and its first pages, which bear the log sequence number of its making.
pub record IsNewTable (d : Definition) (table : NewTable) : Type 0 where
  pub stored : table.stored ≡ definition_bytes d
  pub spelled : read_definition table.stored ≡ Some d
  pub small : length table.stored ≤ 4814
  pub fits : IsLsn table.created
  pub keys : table.keys ≡ made_page (maker_in table) Keys
  pub rows : table.rows ≡ made_page (maker_in table) Rows
  pub first : (part : Part) → made_page (maker_in table) part ≡ first_page d table.created part
  pub sums : Sums table.keys × Sums table.rows
  pub long : (length (page_body table.keys) ≡ 8181) × (length (page_body table.rows) ≡ 8181)

-- A slot that stood for no table stands for this one, whose files have one page each. The others are as they were.
pub record Enters (name : List ℕ) (n : ℕ) (store store' : PageStore) : Type 0 where
  pub free : name_at store n ≡ None
  pub low : n < 2 ^ 32 - 1
  pub names : (m : ℕ) → name_at store' m ≡ (if nat_eq n m then Some name else name_at store m)
  pub size : sizes_at store' n ≡ Some (1, 1)
  pub sizes : (m : ℕ) → IsTrue (is_some (name_at store m)) → sizes_at store' m ≡ sizes_at store m
  pub knows : (q : List ℕ) → known store' q ≡ (if same_name name q then Some (Some n) else known store q)

-- What holds of slots whatever the host tells: a table is known by the slot that stands for it, and no file has too many pages.
pub record AreTidy (store : PageStore) : Type 0 where
  pub known : (n : ℕ) (name : List ℕ) → name_at store n ≡ Some name → known store name ≡ Some (Some n)
  pub few : (n : ℕ) (part : Part) (sizes : ℕ × ℕ) → sizes_at store n ≡ Some sizes → size_in part sizes ≤ 2 ^ 31

-- a page whose checksum fits, with a body of its length
pub record IsWhole (page : List ℕ) : Type 0 where
  pub sums : Sums page
  pub long : length (page_body page) ≡ 8181

-- ---- the group, and the files behind it

-- All groups are on the disk. What a crash may leave comes to the same tables, and has no page ahead of the log that wasn't so
-- where the folder was as at the start. It says nothing of what memory knows of tables.
pub record IsLogged (store : PageStore) (s : State) (base : ℕ) (start : Folder) (groups : List Logged) : Type 0 where
  pub log : IsLog store.log s base groups (length groups)
  pub images : AreImages (opened store) s groups (length groups)
  pub names : (c : Folder) → s.may_leave c → SameNames s.folder c
  pub control : (c : Folder) → s.may_leave c → NamesBase base c
  pub raises : (c : Folder) → s.may_leave c → Raises (next_number store) start c

-- The group was brought to the disk where the call is done, and else it may have been appended.
pub record Logs (store store' : PageStore) (s s' : State) (base : ℕ) (start : Folder) (groups : List Logged) (forced : ℕ) (g : Logged) (done : Bool) : Type 0 where
  pub added : Bool
  pub forced' : ℕ
  pub moves : Moves (HasFront base) (opened store') s s' groups (groups ++ only added g) forced forced'
  pub fronts : HaveFronts base s' (groups ++ only added g) forced'
  pub files : (name : List ℕ) (part : Part) → s'.folder (file name part) ≡ s.folder (file name part)
  pub whole : IsTrue done → added ≡ true
  pub all : IsTrue done → forced' ≡ length (groups ++ g ∷ [])
  pub logged : IsTrue done → IsLogged store' s' base start (groups ++ g ∷ [])

-- Files change, and the tables stay, behind groups that are all on the disk.
pub record FileSteps (store : PageStore) (s s' : State) (base : ℕ) (start : Folder) (groups : List Logged) (done : Bool) : Type 0 where
  pub moves : Moves (HasFront base) (opened store) s s' groups groups (length groups) (length groups)
  pub fronts : HaveFronts base s' groups (length groups)
  pub logged : IsTrue done → IsLogged store s' base start groups

-- The group that makes the table is the last of its files' groups, and its files may be made: no slot stands for it yet.
pub record IsMaking (store : PageStore) (s : State) (base : ℕ) (start : Folder) (groups : List Logged) (name : List ℕ) (maker : Maker) : Type 0 where
  pub logged : IsLogged store s base start groups
  pub last : (life_of name groups).last ≡ Some (Some maker)
  pub closed : opened store name ≡ false
  pub low : lsn_number maker.at < next_number store

-- The group was appended, and all groups are on the disk, where the call is done.
pub record TurnsAll (store store' : PageStore) (s s' : State) (base : ℕ) (start : Folder) (groups : List Logged) (forced : ℕ) (g : Logged) (done : Bool) : Type 0 where
  pub turns : Turns store store' s s' base start groups forced g done
  pub all : IsTrue done → turns.forced' ≡ length (groups ++ g ∷ [])

-- the same between calls, where a fault may be kept
pub record TurnedAll (store store' : PageStore) (s s' : State) (base : ℕ) (start : Folder) (groups : List Logged) (forced : ℕ) (g : Logged) (done : Bool) : Type 0 where
  pub turned : Turned store store' s s' base start groups forced g done
  pub all : IsTrue done → turned.forced' ≡ length (groups ++ g ∷ [])

-- ---- causes

-- A call that appends a group which ends at this place wants memory, the disk failed, or the log is spent: this exactly where
-- page 1023 of file 16777215 would be used, unless it failed before for one of the others.
pub record HasFileCause {T : Type 0} (end : ℕ) (old new : State) (result : Result T Fault) : Type 0 where
  pub only : IfErr result (λ fault. (fault ≡ Memory alloc_error) ⊎ (fault ≡ Disk) ⊎ (fault ≡ LogSpent 16777215))
  pub spent : IsErrOf result (LogSpent 16777215) → 8176 * (2 ^ 34 - 1) < end
  pub fits : OnOk result (end ≤ 8176 * (2 ^ 34 - 1))
  pub counted : IsErrOf result Disk → Rose old.disk_faults new.disk_faults
  pub calm : OnOk result (new.disk_faults ≡ old.disk_faults)
  pub later : old.disk_faults ≤ new.disk_faults
  pub tell : new.tell_faults ≡ old.tell_faults

-- A table isn't made ready: memory is wanting, the disk failed, or each slot stands for a table.
pub record HasReadyCause {T : Type 0} (store : PageStore) (old new : State) (result : Result T Fault) : Type 0 where
  pub only : IfErr result (λ fault. (fault ≡ Memory alloc_error) ⊎ (fault ≡ Disk) ⊎ ((fault ≡ TooManyTables) × AreTaken store))
  pub counted : IsErrOf result Disk → Rose old.disk_faults new.disk_faults
  pub calm : OnOk result (new.disk_faults ≡ old.disk_faults)
  pub later : old.disk_faults ≤ new.disk_faults
  pub tell : new.tell_faults ≡ old.tell_faults

-- A table isn't made: for one of the causes of a call that appends a group, or since each slot stands for a table.
pub record HasCreateCause {T : Type 0} (store : PageStore) (end : ℕ) (old new : State) (result : Result T Fault) : Type 0 where
  pub only : IfErr result (λ fault. (fault ≡ Memory alloc_error) ⊎ (fault ≡ Disk) ⊎ (fault ≡ LogSpent 16777215) ⊎ (fault ≡ TooManyTables))
  pub taken : IsErrOf result TooManyTables → AreTaken store
  pub spent : IsErrOf result (LogSpent 16777215) → 8176 * (2 ^ 34 - 1) < end
  pub fits : OnOk result (end ≤ 8176 * (2 ^ 34 - 1))
  pub counted : IsErrOf result Disk → Rose old.disk_faults new.disk_faults
  pub calm : OnOk result (new.disk_faults ≡ old.disk_faults)
  pub later : old.disk_faults ≤ new.disk_faults
  pub tell : new.tell_faults ≡ old.tell_faults
