-- What a call does that gives a slot to a table.
use Rattle.std.specs.Prelude.{if◌then◌else◌, nat_eq, ◌≡◌, ◌==◌, ◌⊎◌, ◌<◌, ◌≤◌, ⊤, ℕ, Bool, true, false, IsTrue, Some, None, List, length, drop, Result, IfErr, OnOk, codes, slice_index}
use Rattle.std.specs.List.{starts_with}
use Rattle.aria_page.specs.declared.lsn.Lsn.{Lsn}
use Rattle.aria_page.specs.declared.page_kind.PageKind.TheVariants as page_kinds
use Rattle.aria_page.specs.declared.place.Part.{Part}
use Rattle.aria_page.specs.declared.place.Part.TheVariants.{Keys}
use Rattle.aria_page.specs.Lsn.{lsn_number}
use Rattle.aria_page.specs.Page.{IsSound, page_body}
use Rattle.aria_page.specs.PageKind.{kind_byte}
use Rattle.aria_value.specs.Named.{same_name}
use Rattle.aria_host.specs.Count.{Rose}
use Rattle.aria_host.specs.declared.fault.Fault.{Fault}
use Rattle.aria_host.specs.declared.fault.Fault.TheVariants.{Memory, Disk, NotOurs, PageDamaged, LogDamaged, FileMissing, TooManyTables}
use Rattle.aria_host.specs.declared.file_name.FileName.{FileName}
use Rattle.aria_host.specs.Folder.{Folder}
use Rattle.aria_host.specs.Seen.{page_or_zero}
use Rattle.aria_host.specs.State.{State}
use Rattle.aria_record.specs.Logged.{Logged, lsn_at_place}
use Rattle.aria_log.specs.Log.{place}
use Rattle.aria_recovery.specs.Moves.{Moves}
use Rattle.aria_recovery.specs.Redo.{page_number}
use Rattle.aria_recovery.specs.Tables.{file}
use Rattle.aria_pager.specs.declared.page_store.PageStore.{PageStore}
use Rattle.aria_pager.specs.declared.slot.Slot.{Slot}
use Rattle.aria_pager.specs.PageStore.{name_at, sizes_at, opened}
use Rattle.aria_pager.specs.Pager.{HasFront, Standing, known}
use Rattle.aria_pager.specs.Steps.{damaged_at}
use Rattle.aria_pager.specs.Filing.{AreTaken, Reserves, with_tables}

-- a slot that stands for a table whose files have so many pages
abbrev pub given_slot : List ℕ → ℕ → ℕ → Slot
given_slot name keys rows = record { name = name; used = true; keys = record { written = keys; pages = keys }; rows = record { written = rows; pages = rows } }

-- Where it stood for some groups, it stands for these now; at each moment a crash leaves a front of them. Whether other tables
-- are open than before, it leaves open.
pub record Went (store store' : PageStore) (s s' : State) (base : ℕ) (start : Folder) (groups groups' : List Logged) (forced : ℕ) : Type 0 where
  pub forced' : ℕ
  pub standing : Standing store' s' base start groups' forced'
  pub moves : Moves (HasFront base) (opened store') s s' groups groups' forced forced'

-- No group ended. Slots stand for the tables that they stood for, and maybe others for more.
pub record Opens (store store' : PageStore) (s s' : State) : Type 0 where
  pub slots : (n : ℕ) (name : List ℕ) → name_at store n ≡ Some name → name_at store' n ≡ Some name
  pub opens : (name : List ℕ) → IsTrue (opened store name) → IsTrue (opened store' name)
  pub goes : (base : ℕ) (start : Folder) (groups : List Logged) (forced : ℕ) → Standing store s base start groups forced → Went store store' s s' base start groups groups forced

-- A table got this slot, which stood for none. The others stand for the tables that they stood for.
pub record Gives (name : List ℕ) (n : ℕ) (store store' : PageStore) : Type 0 where
  pub free : name_at store n ≡ None
  pub named : name_at store' n ≡ Some name
  pub others : (m : ℕ) → nat_eq n m ≡ false → name_at store' m ≡ name_at store m
  pub knows : (q : List ℕ) → known store' q ≡ (if same_name name q then Some (Some n) else known store q)
  pub sizes : (m : ℕ) (q : List ℕ) → name_at store m ≡ Some q → sizes_at store' m ≡ sizes_at store m

-- No slot was given, but one that stands for no table may have been added.
pub record IsReserved (store store' : PageStore) : Type 0 where
  pub more : Reserves store store'
  pub knows : (q : List ℕ) → known store' q ≡ known store q
  pub rest : store' ≡ with_tables store store.frames store'.slots store'.tables

-- ---- the files of a table

-- bytes 1 to 8 of a page's body are the magic of index files
abbrev pub has_magic : List ℕ → Bool
has_magic body = starts_with ◌==◌ (drop 1 body) (codes "ARIAOWN1")

-- The first page of an index file is sound and a header, by its kind and its magic, and isn't ahead of a log that ends here.
pub record IsHeaded (end : ℕ) (page : List ℕ) : Type 0 where
  pub sound : IsSound page
  pub magic : has_magic (page_body page) ≡ true
  pub kind : slice_index (page_body page) 0 ≡ kind_byte page_kinds.Header
  pub below : page_number page < end

-- What is wrong with it: it has another magic, it isn't sound or has another kind, or it is ahead of the log, which is damaged
-- at its end then.
abbrev pub OfFirst : Bool → List ℕ → FileName → Lsn → Fault → Type 0
OfFirst tells page file end (NotOurs f) = (f ≡ file) × (IsTrue tells → IsSound page × (has_magic (page_body page) ≡ false))
OfFirst tells page file end (PageDamaged f n) = (f ≡ file) × (n ≡ 0) × (IsTrue tells → (¬ IsSound page) ⊎ ((has_magic (page_body page) ≡ true) × (¬ (slice_index (page_body page) 0 ≡ kind_byte page_kinds.Header))))
OfFirst tells page file end (LogDamaged f n) = (LogDamaged f n ≡ damaged_at end) × (IsTrue tells → IsSound page × (lsn_number end ≤ page_number page))
OfFirst tells page file end _ = ⊥

-- a file of a table is there, with so many pages
pub record IsThere (name : List ℕ) (part : Part) (folder : Folder) (pages : ℕ) : Type 0 where
  pub content : List (List ℕ)
  pub there : folder (file name part) ≡ Some content
  pub long : length content ≡ pages

-- Why a table gets no slot: memory is wanting; the disk failed; a file of it is missing; its index file doesn't begin as it
-- must; or each slot stands for a table.
abbrev pub OfTable : Bool → PageStore → List ℕ → State → State → Fault → Type 0
OfTable tells store name old new (Memory e) = ⊤
OfTable tells store name old new Disk = Rose old.disk_faults new.disk_faults
OfTable tells store name old new (FileMissing f) = (part : Part) × (f ≡ file name part) × (IsTrue tells → new.folder (file name part) ≡ None)
OfTable tells store name old new TooManyTables = AreTaken store
OfTable tells store name old new fault = OfFirst tells (page_or_zero 0 (new.folder (file name Keys))) (file name Keys) (lsn_at_place (place store.log)) fault

-- It gets one, or it doesn't for one of these causes. Faults of the disk are counted, and come with no other answer.
pub record HasTableCause {T : Type 0} (tells : Bool) (store : PageStore) (name : List ℕ) (old new : State) (result : Result T Fault) : Type 0 where
  pub only : IfErr result (OfTable tells store name old new)
  pub calm : OnOk result (new.disk_faults ≡ old.disk_faults)
  pub later : old.disk_faults ≤ new.disk_faults
  pub tell : new.tell_faults ≡ old.tell_faults
