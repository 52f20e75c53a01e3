-- The pager's condition, and what holds of it between calls.
use Rattle.std.specs.Prelude.{◌≡◌, ◌⊎◌, ℕ, ◌^◌, ◌<◌, ◌≤◌, max, Bool, true, false, IsTrue, Option, None, Some, is_some, List, [], length, drop, map, reverse, slice_get, All}
use Rattle.std.specs.Option.{option_map_or}
use Rattle.std.specs.BTreeMap.{get}
use Rattle.std.specs.Ordering.{nat_cmp}
use Rattle.std.specs.Cmp.Lexicographic.{slice_cmp}
use Rattle.aria_page.specs.declared.place.Part.{Part}
use Rattle.aria_page.specs.declared.place.Part.TheVariants.{Keys, Rows}
use Rattle.aria_host.specs.Folder.{Folder, page_count}
use Rattle.aria_host.specs.State.{State}
use Rattle.aria_control.specs.declared.control.Control.{Control}
use Rattle.aria_control.specs.declared.found.Found.TheVariants.{Kept}
use Rattle.aria_control.specs.Found.{Finds}
use Rattle.aria_record.specs.Logged.{Logged, lsn_at_place}
use Rattle.aria_record.specs.Writing.{Writes, records_of}
use Rattle.aria_log.specs.declared.log.Log.{Log as LogValue}
use Rattle.aria_log.specs.Pieces.{log_files}
use Rattle.aria_log.specs.Files.{HoldsLog, IsSoundLog}
use Rattle.aria_log.specs.Finding.{base_of}
use Rattle.aria_log.specs.Log.{IsLog, IsOpened, place}
use Rattle.aria_cache.specs.Frames.{held, is_pinned}
use Rattle.aria_recovery.specs.Frames.{Spot, FramesOver, Progress, all_of, is_dirty}
use Rattle.aria_recovery.specs.Redo.{number_at, touches, reach, reach_on}
use Rattle.aria_recovery.specs.Tables.{told_by, life_of, file, tables_of}
use Rattle.aria_recovery.specs.Images.{AreImages, Raises, SameNames}
use Rattle.aria_recovery.specs.Moves.{HasFront as FrontOf}
use Rattle.aria_recovery.specs.Pending.{pending_of}
use Rattle.aria_pager.specs.declared.page_store.PageStore.{PageStore}
use Rattle.aria_pager.specs.declared.slot.Slot.{Slot}
use Rattle.aria_pager.specs.declared.slot.FilePages.{FilePages}
use Rattle.aria_pager.specs.PageStore.{name_at, opened, spot_of, is_known}

-- ---- the log

-- the control file says that the log is read from this base on
pub record NamesBase (base : ℕ) (folder : Folder) : Type 0 where
  pub control : Control
  pub found : Finds (Kept control) folder
  pub base_is : base_of control.redo ≡ Some base

-- a folder's log, from the base that its control file names
pub record HasFront (base : ℕ) (folder : Folder) (groups : List Logged) : Type 0 where
  pub end : ℕ
  pub holds : HoldsLog (log_files folder) base groups end
  pub sound : IsSoundLog (log_files folder) base end
  pub named : NamesBase base folder

-- each image has a front of the groups, of at least so many
abbrev pub HaveFronts : ℕ → State → List Logged → ℕ → Type 0
HaveFronts base s groups forced = (c : Folder) → s.may_leave c → FrontOf (HasFront base) groups forced c

-- The log was started; or it was opened, and nothing is to be appended yet.
abbrev pub LogOf : Bool → LogValue → State → ℕ → List Logged → ℕ → Type 0
LogOf true log s base groups forced = IsLog log s base groups forced
LogOf false log s base groups forced = IsOpened log s base groups log.last × (forced ≡ length groups)

-- the number of the log sequence number that the next group gets
abbrev pub next_number : PageStore → ℕ
next_number store = number_at (place store.log)

-- what frames hold of the pages, where so many groups are redone on each, with the open group's edits on top
abbrev pub HoldsPages : PageStore → Folder → List Logged → Progress → Type 0
HoldsPages store folder groups redone = FramesOver (is_known store) (held store.frames) (is_pinned store.frames) (spot_of store) folder groups redone (records_of store.writer) (next_number store) (next_number store)

-- a group is open only where all groups are redone
abbrev pub AreOnTop : PageStore → List Logged → Progress → Type 0
AreOnTop store groups redone = (records_of store.writer ≡ []) ⊎ ((k : ℕ) → redone k ≡ length groups)

-- the open group edits the page of the key
abbrev pub is_touched : PageStore → ℕ → Bool
is_touched store key = option_map_or (λ s. touches s.name s.part s.page (records_of store.writer)) (spot_of store key) false

-- the open group edits pages of used slots alone
abbrev pub AreOwn : PageStore → Type 0
AreOwn store = (name : List ℕ) (part : Part) (n : ℕ) → touches name part n (records_of store.writer) ≡ true → (key : ℕ) × (spot_of store key ≡ Some (record { name = name; part = part; page = n }))

-- the open group has no record of a page of a table without a slot
abbrev pub AreNamed : PageStore → Type 0
AreNamed store = (name : List ℕ) (part : Part) → opened store name ≡ false → reach_on name part (records_of store.writer) ≡ 0

-- A page that is to be written is one that its file has, as the groups make it, or the open group edits it.
abbrev pub AreInside : PageStore → Folder → List Logged → Type 0
AreInside store folder groups = (k : ℕ) (s : Spot) → spot_of store k ≡ Some s → is_dirty (held store.frames) k ≡ true → is_pinned store.frames k ≡ false
    → s.page < max (page_count (file s.name s.part) folder) (reach s.name s.part (life_of s.name groups).since)

-- ---- slots

abbrev pub pages_in : Slot → Part → FilePages
pages_in slot Keys = slot.keys
pages_in slot Rows = slot.rows

abbrev pub with_pages : Part → FilePages → Slot → Slot
with_pages Keys pages slot = record { name = slot.name; used = slot.used; keys = pages; rows = slot.rows }
with_pages Rows pages slot = record { name = slot.name; used = slot.used; keys = slot.keys; rows = pages }

-- a file of a table is there, with so many pages as it reads, and so many after all groups and the open group's edits
pub record OnDisk (store : PageStore) (folder : Folder) (groups : List Logged) (name : List ℕ) (part : Part) (pages : FilePages) : Type 0 where
  pub content : List (List ℕ)
  pub there : folder (file name part) ≡ Some content
  pub written : length content ≡ pages.written
  pub counts : pages.pages ≡ max (max pages.written (reach name part (life_of name groups).since)) (reach_on name part (records_of store.writer))
  pub few : pages.pages ≤ 2 ^ 31

-- what is known of a name: nothing where it has no table, and else its table's slot, if it has one
abbrev pub known : PageStore → List ℕ → Option (Option ℕ)
known store name = get (slice_cmp nat_cmp) store.tables name

-- a used slot stands for a table, and no other one does
pub record IsSlot (store : PageStore) (folder : Folder) (groups : List Logged) (n : ℕ) (slot : Slot) : Type 0 where
  pub table : IsTrue (is_some (tables_of folder groups slot.name))
  pub files : (part : Part) → OnDisk store folder groups slot.name part (pages_in slot part)
  pub known : known store slot.name ≡ Some (Some n)

abbrev pub AreSlots : PageStore → Folder → List Logged → Type 0
AreSlots store folder groups = (n : ℕ) (slot : Slot) → slice_get store.slots n ≡ Some slot → slot.used ≡ true → IsSlot store folder groups n slot

-- the groups tell nothing of the table: they neither made it nor edited its pages
pub record AreSilent (name : List ℕ) (groups : List Logged) : Type 0 where
  pub last : (life_of name groups).last ≡ None
  pub none : (part : Part) → reach name part (life_of name groups).since ≡ 0

-- The pager knows the tables, and the slot of each that has one. Of one that has none the groups tell nothing.
pub record KnowsTables (store : PageStore) (folder : Folder) (groups : List Logged) : Type 0 where
  pub each : (name : List ℕ) → is_some (known store name) ≡ is_some (tables_of folder groups name)
  pub slot : (name : List ℕ) (n : ℕ) → known store name ≡ Some (Some n) → name_at store n ≡ Some name
  pub silent : (name : List ℕ) → known store name ≡ Some None → AreSilent name groups

-- no group from here on makes or drops files
abbrev pub NoFiles : List Logged → Type 0
NoFiles groups = (name : List ℕ) → All (λ g. told_by name g ≡ None) groups

-- ---- the condition

-- The log has these groups from the base on, of which so many are forced, and so many are redone on each page. What a crash
-- may leave comes to the same tables as the folder by each front of them that has the forced ones, and has no page ahead of
-- the log that wasn't so where the folder was as at the start.
pub record IsPagerAt (store : PageStore) (s : State) (redone : Progress) (base : ℕ) (start : Folder) (groups : List Logged) (forced : ℕ) : Type 0 where
  pub log : LogOf store.started store.log s base groups forced
  pub images : AreImages (opened store) s groups forced
  pub names : (c : Folder) → s.may_leave c → SameNames s.folder c
  pub control : (c : Folder) → s.may_leave c → NamesBase base c
  pub raises : (c : Folder) → s.may_leave c → Raises (next_number store) start c
  pub pages : HoldsPages store s.folder groups redone
  pub top : AreOnTop store groups redone
  pub inside : AreInside store s.folder groups
  pub pinned : (key : ℕ) → is_pinned store.frames key ≡ is_touched store key
  pub own : AreOwn store
  pub named : AreNamed store
  pub slots : AreSlots store s.folder groups
  pub tables : KnowsTables store s.folder groups
  pub settled : NoFiles (drop forced groups)
  pub written : Writes store.writer (records_of store.writer)
  pub pending : store.pending.items ≡ reverse (map lsn_at_place (pending_of groups))

-- the same, once all groups are redone
abbrev pub IsPager : PageStore → State → ℕ → Folder → List Logged → ℕ → Type 0
IsPager store s base start groups forced = IsPagerAt store s (all_of groups) base start groups forced

-- a pager, whatever its groups
abbrev pub IsRunning : PageStore → State → Type 0
IsRunning store s = (base : ℕ) × (start : Folder) × (groups : List Logged) × (forced : ℕ) × IsPager store s base start groups forced

-- the same, also while groups are redone
abbrev pub IsRunningAt : PageStore → State → Type 0
IsRunningAt store s = (redone : Progress) × (base : ℕ) × (start : Folder) × (groups : List Logged) × (forced : ℕ) × IsPagerAt store s redone base start groups forced

-- What holds between calls with any answer: what a crash leaves, and the pager's condition where no fault is kept.
pub record Standing (store : PageStore) (s : State) (base : ℕ) (start : Folder) (groups : List Logged) (forced : ℕ) : Type 0 where
  pub within : forced ≤ length groups
  pub images : AreImages (opened store) s groups forced
  pub fronts : HaveFronts base s groups forced
  pub pager : store.kept ≡ None → IsPager store s base start groups forced
