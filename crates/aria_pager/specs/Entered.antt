-- What memory knows of the tables before groups are made again.
use Rattle.std.specs.Prelude.{⊤, ◌-◌, ◌≡◌, ◌⊎◌, ◌&&◌, not, ℕ, ◌^◌, ◌≤◌, max, Bool, true, false, nat_lt, Option, None, Some, is_some, List, [], length, Result, IfErr, OnOk, IsErrOf, alloc_error, All}
use Rattle.std.specs.List.{list_any}
use Rattle.std.specs.List.Sorted.{IsStrictlySortedBy}
use Rattle.std.specs.Set.{is_member}
use Rattle.std.specs.Ordering.{nat_cmp, eq_by_cmp}
use Rattle.std.specs.Cmp.Lexicographic.{slice_cmp}
use Rattle.aria_page.specs.Lsn.{IsLsn}
use Rattle.aria_page.specs.declared.lsn.Lsn.{Lsn}
use Rattle.aria_page.specs.declared.place.Part.{Part}
use Rattle.aria_page.specs.declared.place.Part.TheVariants.{Keys, Rows}
use Rattle.aria_value.specs.Named.{same_name}
use Rattle.aria_host.specs.Count.{Rose}
use Rattle.aria_host.specs.declared.fault.Fault.{Fault}
use Rattle.aria_host.specs.declared.fault.Fault.TheVariants.{Memory, Disk, FileMissing, TooManyTables}
use Rattle.aria_host.specs.declared.file_name.FileName.{FileName}
use Rattle.aria_host.specs.Folder.{Folder, same_file}
use Rattle.aria_host.specs.State.{State}
use Rattle.aria_record.specs.Logged.{Logged}
use Rattle.aria_record.specs.Writing.{Writes}
use Rattle.aria_log.specs.declared.log.Log.{Log as LogValue}
use Rattle.aria_cache.specs.Frames.{held}
use Rattle.aria_recovery.specs.Redo.{reach}
use Rattle.aria_recovery.specs.Tables.{life_of, file}
use Rattle.aria_recovery.specs.Noted.{told_of, is_of}
use Rattle.aria_recovery.specs.Pending.{pending_of, oldest}
use Rattle.aria_recovery.specs.declared.life.Told.{Told}
use Rattle.aria_recovery.specs.declared.life.Told.TheVariants.{Nothing, Dropped, Made}
use Rattle.aria_pager.specs.declared.page_store.PageStore.{PageStore}
use Rattle.aria_pager.specs.declared.slot.FilePages.{FilePages}
use Rattle.aria_pager.specs.declared.slot.Slot.{Slot}
use Rattle.aria_pager.specs.PageStore.{name_at}
use Rattle.aria_pager.specs.Pager.{AreSlots, known}

-- ---- what the groups tell of a name

abbrev pub is_dropped : Told → Bool
is_dropped Nothing = false
is_dropped Dropped = true
is_dropped (Made at) = false

-- the groups dropped the table last
abbrev pub was_dropped : List ℕ → List Logged → Bool
was_dropped name groups = is_dropped (told_of (life_of name groups).last)

abbrev pub is_told : Told → ℕ → Bool
is_told Nothing pages = nat_lt 0 pages
is_told Dropped pages = false
is_told (Made at) pages = true

abbrev pub reach_of : List ℕ → Part → List Logged → ℕ
reach_of name part groups = reach name part (life_of name groups).since

-- The groups made the table last, or have records of its pages, with no word of its files.
abbrev pub needs_slot : List ℕ → List Logged → Bool
needs_slot name groups = is_told (told_of (life_of name groups).last) (max (reach_of name Keys groups) (reach_of name Rows groups))

-- no group has a record of a page that a file can't have
abbrev pub AreLow : List Logged → Type 0
AreLow groups = (name : List ℕ) (part : Part) → reach_of name part groups ≤ 2 ^ 31

-- the index file of each table of whose files the groups tell nothing is listed exactly where it is there
abbrev pub AreListed : List FileName → Folder → List Logged → Type 0
AreListed names folder groups = (name : List ℕ) → (life_of name groups).last ≡ None → list_any (same_file (file name Keys)) names ≡ is_some (folder (file name Keys))

-- its index file is listed, and the groups didn't drop it
abbrev pub is_listed : List FileName → List Logged → List ℕ → Bool
is_listed names groups name = list_any (same_file (file name Keys)) names && not (was_dropped name groups)

-- ---- what is found of the files

-- a file of a table is there, with so many pages as it reads, and so many after all groups
pub record HasPages (folder : Folder) (groups : List Logged) (name : List ℕ) (part : Part) (pages : FilePages) : Type 0 where
  pub content : List (List ℕ)
  pub there : folder (file name part) ≡ Some content
  pub written : length content ≡ pages.written
  pub counts : pages.pages ≡ max pages.written (reach_of name part groups)

-- ---- what is known of the tables

-- Slots stand for tables as they are after all groups. A table of which nothing is told is known where its index file is there, and
-- one that was dropped isn't known.
pub record IsEntering (store : PageStore) (folder : Folder) (groups : List Logged) : Type 0 where
  pub slots : AreSlots store folder groups
  pub slot : (name : List ℕ) (n : ℕ) → known store name ≡ Some (Some n) → name_at store n ≡ Some name
  pub bare : (name : List ℕ) → (life_of name groups).last ≡ None → is_some (known store name) ≡ is_some (folder (file name Keys))
  pub gone : (name : List ℕ) → (life_of name groups).last ≡ Some None → known store name ≡ None

abbrev pub HasSlot : PageStore → List ℕ → Type 0
HasSlot store name = (n : ℕ) × (known store name ≡ Some (Some n))

-- slots stay the tables' own
abbrev pub KeepSlots : PageStore → PageStore → Type 0
KeepSlots store store' = (name : List ℕ) (n : ℕ) → known store name ≡ Some (Some n) → known store' name ≡ Some (Some n)

-- each of these tables that needs a slot has one
abbrev pub HaveSlots : PageStore → List Logged → List (List ℕ) → Type 0
HaveSlots store groups names = (name : List ℕ) → list_any (same_name name) names ≡ true → needs_slot name groups ≡ true → HasSlot store name

-- what is known of it is a slot
abbrev pub has_slot : Option (Option ℕ) → Bool
has_slot None = false
has_slot (Some None) = false
has_slot (Some (Some n)) = true

-- the slot of a table that is entered
abbrev pub used_slot : List ℕ → FilePages → FilePages → Slot
used_slot name keys rows = record { name = name; used = true; keys = keys; rows = rows }

-- A pager over a log that was started, or was opened alone: no page is held, no table is known, and no group is open.
pub record IsBlank (log' : LogValue) (started' : Bool) (pending' : List Lsn) (store : PageStore) : Type 0 where
  pub log : store.log ≡ log'
  pub started : store.started ≡ started'
  pub none : (k : ℕ) → held store.frames k ≡ None
  pub pins : store.frames.pins.items ≡ []
  pub empty : Writes store.writer []
  pub in_group : store.in_group ≡ false
  pub slots : store.slots ≡ []
  pub tables : (name : List ℕ) → known store name ≡ None
  pub pending : store.pending.items ≡ pending'
  pub kept : store.kept ≡ None

-- THE TABLES ARE ENTERED in such a pager: each that needs a slot has one, and no page is held.
pub record HasEntered (log' : LogValue) (started' : Bool) (folder : Folder) (groups : List Logged) (store : PageStore) : Type 0 where
  pub log : store.log ≡ log'
  pub started : store.started ≡ started'
  pub none : (k : ℕ) → held store.frames k ≡ None
  pub pins : store.frames.pins.items ≡ []
  pub empty : Writes store.writer []
  pub pending : All IsLsn (oldest (pending_of groups)) → store.pending.items ≡ oldest (pending_of groups)
  pub entering : IsEntering store folder groups
  pub have : (name : List ℕ) → needs_slot name groups ≡ true → HasSlot store name

-- ---- faults

-- Why a table can't be entered: want of memory or of slots, the disk; or a file isn't there.
abbrev pub OfEnter : Bool → Folder → Fault → Type 0
OfEnter tells folder (FileMissing f) = tells ≡ true → (name : List ℕ) × (part : Part) × (f ≡ file name part) × (folder f ≡ None)
OfEnter tells folder fault = (fault ≡ Disk) ⊎ (fault ≡ Memory alloc_error) ⊎ (fault ≡ TooManyTables)

-- the file that must be there isn't
abbrev pub LacksFile : Folder → FileName → Fault → Type 0
LacksFile folder wanted (FileMissing f) = (f ≡ wanted) × (folder f ≡ None)
LacksFile folder wanted fault = ⊤

-- the same of a file of some table that needs a slot
abbrev pub LacksOne : List Logged → Folder → Fault → Type 0
LacksOne groups folder (FileMissing f) = (name : List ℕ) × (part : Part) × (needs_slot name groups ≡ true) × (f ≡ file name part) × (folder f ≡ None)
LacksOne groups folder fault = ⊤

-- so many tables have or get slots that there are no more
abbrev pub HasMany : ℕ → Fault → Type 0
HasMany tables TooManyTables = 2 ^ 32 - 1 ≤ tables
HasMany tables fault = ⊤

-- the groups tell of so many names
abbrev pub AreMany : List Logged → Fault → Type 0
AreMany groups TooManyTables = (names : List (List ℕ)) × IsStrictlySortedBy (slice_cmp nat_cmp) names × ((q : List ℕ) → is_member (eq_by_cmp (slice_cmp nat_cmp)) names q ≡ list_any (is_of q) groups) × (2 ^ 32 - 1 ≤ length names)
AreMany groups fault = ⊤

-- A table is entered, or it isn't for one of these causes. Faults of the disk are counted, and come with no other answer.
pub record HasEnterCause {T : Type 0} (tells : Bool) (old new : State) (result : Result T Fault) : Type 0 where
  pub only : IfErr result (OfEnter tells old.folder)
  pub counted : IsErrOf result Disk → Rose old.disk_faults new.disk_faults
  pub calm : OnOk result (new.disk_faults ≡ old.disk_faults)
  pub later : old.disk_faults ≤ new.disk_faults
  pub tell : new.tell_faults ≡ old.tell_faults
