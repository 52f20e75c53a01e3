-- What the pager's own functions do.
use Rattle.std.specs.Prelude.{◌≡◌, ⊤, ℕ, ◌/◌, ◌^◌, ◌<◌, ◌≤◌, Bool, true, false, IsTrue, None, Some, Result, IfErr, OnOk, List, [], ◌∷◌, ◌++◌, length}
use Rattle.std.specs.Global.{Vec}
use Rattle.aria_page.specs.declared.lsn.Lsn.{Lsn}
use Rattle.aria_host.specs.Count.{Rose}
use Rattle.aria_host.specs.declared.fault.Fault.{Fault}
use Rattle.aria_host.specs.declared.fault.Fault.TheVariants.{Memory, Disk, PageDamaged, LogDamaged}
use Rattle.aria_host.specs.Folder.{Folder}
use Rattle.aria_host.specs.State.{State}
use Rattle.aria_record.specs.declared.group_writer.GroupWriter.{GroupWriter}
use Rattle.aria_record.specs.declared.record.Record.{Record}
use Rattle.aria_record.specs.Logged.{Logged, lsn_at_place}
use Rattle.aria_record.specs.Writing.{records_of}
use Rattle.aria_log.specs.declared.log.Log.{Log as LogValue}
use Rattle.aria_log.specs.Log.{place}
use Rattle.aria_cache.specs.declared.frames.Frames.{Frames}
use Rattle.aria_cache.specs.Frames.{Held, held}
use Rattle.aria_recovery.specs.Moves.{Moves}
use Rattle.aria_pager.specs.declared.page_store.PageStore.{PageStore}
use Rattle.aria_pager.specs.declared.slot.Slot.{Slot}
use Rattle.aria_pager.specs.PageStore.{name_at, sizes_at, opened, spot_of, raw, late_seen}
use Rattle.aria_recovery.specs.Frames.{Spot, Progress, all_of, as_seen}
use Rattle.aria_recovery.specs.Tables.{file, says_group}
use Rattle.aria_pager.specs.View.{count_at}
use Rattle.aria_pager.specs.Pager.{HasFront, HaveFronts, IsPager, IsPagerAt, next_number}

-- the slots, the open group and what is pending stay
pub record SameWork (store store' : PageStore) : Type 0 where
  pub slots : name_at store' ≡ name_at store
  pub sizes : sizes_at store' ≡ sizes_at store
  pub opens : opened store' ≡ opened store
  pub tables : store'.tables ≡ store.tables
  pub writer : store'.writer ≡ store.writer
  pub pending : store'.pending ≡ store.pending
  pub started : store'.started ≡ store.started
  pub in_group : store'.in_group ≡ store.in_group
  pub made : store'.made ≡ store.made
  pub lent : store'.lent ≡ store.lent
  pub kept : store'.kept ≡ store.kept

-- The slots stand for the same tables, and what isn't the open group's stays.
pub record SameTables (store store' : PageStore) : Type 0 where
  pub slots : name_at store' ≡ name_at store
  pub opens : opened store' ≡ opened store
  pub tables : store'.tables ≡ store.tables
  pub pending : store'.pending ≡ store.pending
  pub started : store'.started ≡ store.started
  pub in_group : store'.in_group ≡ store.in_group
  pub lent : store'.lent ≡ store.lent
  pub kept : store'.kept ≡ store.kept

-- the same but for frames, slots and the open group
abbrev pub with_group : PageStore → Frames → GroupWriter → ℕ → List Slot → PageStore
with_group store frames writer made slots = record {
  log = store.log;
  started = store.started;
  frames = frames;
  writer = writer;
  in_group = store.in_group;
  made = made;
  slots = slots;
  tables = store.tables;
  pending = store.pending;
  lent = store.lent;
  kept = store.kept;
  blank = store.blank;
}

-- the same with another log, which is started or isn't
abbrev pub with_start : PageStore → Bool → LogValue → PageStore
with_start store started log = record {
  log = log;
  started = started;
  frames = store.frames;
  writer = store.writer;
  in_group = store.in_group;
  made = store.made;
  slots = store.slots;
  tables = store.tables;
  pending = store.pending;
  lent = store.lent;
  kept = store.kept;
  blank = store.blank;
}

-- the same once the open group was appended, with these undo records pending
abbrev pub with_end : PageStore → LogValue → Frames → GroupWriter → Vec Lsn → PageStore
with_end store log frames writer pending = record {
  log = log;
  started = store.started;
  frames = frames;
  writer = writer;
  in_group = store.in_group;
  made = store.made;
  slots = store.slots;
  tables = store.tables;
  pending = pending;
  lent = store.lent;
  kept = store.kept;
  blank = store.blank;
}

-- the records say nothing of the files of tables
abbrev pub IsQuiet : List Record → Type 0
IsQuiet records = (name : List ℕ) (lsn : Lsn) → says_group name lsn records ≡ None

-- A call that ends no group, where so many groups are redone on each page: what a crash leaves comes to the same, and where it
-- is done the pager's condition holds.
pub record StepsAt (store store' : PageStore) (s s' : State) (redone : Progress) (base : ℕ) (start : Folder) (groups : List Logged) (forced : ℕ) (done : Bool) : Type 0 where
  pub forced' : ℕ
  pub moves : Moves (HasFront base) (opened store) s s' groups groups forced forced'
  pub fronts : HaveFronts base s' groups forced'
  pub pager : IsTrue done → IsPagerAt store' s' redone base start groups forced'

-- the same, once all groups are redone
abbrev pub Steps : PageStore → PageStore → State → State → ℕ → Folder → List Logged → ℕ → Bool → Type 0
Steps store store' s s' base start groups forced done = StepsAt store store' s s' (all_of groups) base start groups forced done

-- all groups are brought to the disk
pub record ForcesAt (store store' : PageStore) (s s' : State) (redone : Progress) (base : ℕ) (start : Folder) (groups : List Logged) (forced : ℕ) (done : Bool) : Type 0 where
  pub steps : StepsAt store store' s s' redone base start groups forced done
  pub all : IsTrue done → steps.forced' ≡ length groups

-- a page was read to be held
pub record IsRead (store : PageStore) (s : State) (key : ℕ) (h : Held) : Type 0 where
  pub page : raw store s.folder key ≡ Some (as_seen h)
  pub below : h.lsn < next_number store
  pub clean : h.dirty ≡ false

-- where the log is found to be damaged
abbrev pub damaged_at : Lsn → Fault
damaged_at lsn = LogDamaged lsn.file (lsn.offset / 8192)

-- a page that a slot's file has isn't sound
pub record IsDamaged (store : PageStore) (folder : Folder) (key : ℕ) (s : Spot) : Type 0 where
  pub none : raw store folder key ≡ None
  pub below : s.page < count_at store s.part (Some (key / 2 ^ 32))

-- Why a page can't be held: memory is wanting; the disk failed; it isn't sound; or it is ahead of the log, which is damaged at its end then. Such a
-- page isn't held, and one that isn't sound is a page that its file has.
abbrev pub OfHold : Bool → PageStore → ℕ → State → State → Fault → Type 0
OfHold tells store key old new (Memory e) = ⊤
OfHold tells store key old new Disk = Rose old.disk_faults new.disk_faults
OfHold tells store key old new (PageDamaged f n) = (s : Spot) × (spot_of store key ≡ Some s) × (f ≡ file s.name s.part) × (n ≡ s.page) × (held store.frames key ≡ None) × (IsTrue tells → IsDamaged store new.folder key s)
OfHold tells store key old new (LogDamaged f n) = (LogDamaged f n ≡ damaged_at (lsn_at_place (place store.log))) × (held store.frames key ≡ None) × (IsTrue tells → late_seen (next_number store) (raw store new.folder key) ≡ true)
OfHold tells store key old new _ = ⊥

-- A page is held, or it isn't for one of these causes. Faults of the disk are counted, and come with no other answer.
pub record HasHoldCause {T : Type 0} (tells : Bool) (store : PageStore) (key : ℕ) (old new : State) (result : Result T Fault) : Type 0 where
  pub only : IfErr result (OfHold tells store key old new)
  pub calm : OnOk result (new.disk_faults ≡ old.disk_faults)
  pub later : old.disk_faults ≤ new.disk_faults
  pub tell : new.tell_faults ≡ old.tell_faults

-- an entry was added to the open group
pub record Adds (store store' : PageStore) (s s' : State) (base : ℕ) (start : Folder) (groups : List Logged) (forced : ℕ) (entry : Record) (done : Bool) : Type 0 where
  pub forced' : ℕ
  pub moves : Moves (HasFront base) (opened store) s s' groups groups forced forced'
  pub fronts : HaveFronts base s' groups forced'
  pub entries : IsTrue done → records_of store'.writer ≡ records_of store.writer ++ entry ∷ []
  pub pager : IsTrue done → IsPager store' s' base start groups forced'

-- The open group was appended, and these undo records are pending then.
pub record Appends (store store' : PageStore) (s s' : State) (base : ℕ) (start : Folder) (groups : List Logged) (forced : ℕ) (group : List Record) : Type 0 where
  pub moves : Moves (HasFront base) (opened store) s s' groups (groups ++ record { at = place store.log; group = group } ∷ []) forced forced
  pub fronts : HaveFronts base s' (groups ++ record { at = place store.log; group = group } ∷ []) forced
  pub entries : records_of store'.writer ≡ []
  pub pager : IsPager store' s' base start (groups ++ record { at = place store.log; group = group } ∷ []) forced
