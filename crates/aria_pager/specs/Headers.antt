-- The first pages of tables' index files, once the groups of the log are made again.
use Rattle.std.specs.Prelude.{◌≡◌, ◌*◌, ⊤, ℕ, ◌≤◌, Bool, true, false, IsTrue, None, Some, List, Result, IfErr, OnOk, slice_index}
use Rattle.std.specs.Option.{option_map_or}
use Rattle.aria_page.specs.declared.page_kind.PageKind.TheVariants as page_kinds
use Rattle.aria_page.specs.declared.lsn.Lsn.{Lsn}
use Rattle.aria_page.specs.declared.place.Part.TheVariants.{Keys}
use Rattle.aria_page.specs.PageKind.{kind_byte}
use Rattle.aria_host.specs.Count.{Rose}
use Rattle.aria_host.specs.declared.fault.Fault.{Fault}
use Rattle.aria_host.specs.declared.fault.Fault.TheVariants.{Disk, NotOurs, PageDamaged, LogDamaged}
use Rattle.aria_host.specs.declared.file_name.FileName.{FileName}
use Rattle.aria_host.specs.Folder.{Folder}
use Rattle.aria_host.specs.State.{State}
use Rattle.aria_record.specs.Logged.{Logged, lsn_at_place}
use Rattle.aria_log.specs.Files.{HoldsLog}
use Rattle.aria_log.specs.Log.{place}
use Rattle.aria_log.specs.Pieces.{log_files}
use Rattle.aria_cache.specs.Frames.{held}
use Rattle.aria_cache.specs.Key.{key_of}
use Rattle.aria_recovery.specs.Redo.{Seen, number_at}
use Rattle.aria_recovery.specs.Frames.{as_seen}
use Rattle.aria_recovery.specs.Tables.{file, tables_of, page_in}
use Rattle.aria_pager.specs.declared.page_store.PageStore.{PageStore}
use Rattle.aria_pager.specs.PageStore.{name_at, raw, late_seen}
use Rattle.aria_pager.specs.Pager.{next_number}
use Rattle.aria_pager.specs.Slotted.{has_magic}
use Rattle.aria_pager.specs.Steps.{damaged_at}
use Rattle.aria_pager.specs.Entered.{needs_slot}
use Rattle.aria_pager.specs.View.{page_bodies, page_late}

-- ---- headers

-- a body begins as a header's does, by its kind and its magic
pub record IsHeader (body : List ℕ) : Type 0 where
  pub magic : has_magic body ≡ true
  pub kind : slice_index body 0 ≡ kind_byte page_kinds.Header

-- the index file of the table begins with a header, as callers see it, that isn't ahead of the log
pub record HasHeader (store : PageStore) (folder : Folder) (name : List ℕ) : Type 0 where
  pub body : List ℕ
  pub shown : page_bodies store folder (file name Keys) 0 ≡ Some body
  pub header : IsHeader body
  pub early : page_late store folder (file name Keys) 0 ≡ false

-- THE TABLES THAT HAVE SLOTS begin with headers.
abbrev pub HaveHeaders : PageStore → Folder → Type 0
HaveHeaders store folder = (n : ℕ) (name : List ℕ) → name_at store n ≡ Some name → HasHeader store folder name

-- so does this table, if it has a slot
abbrev pub BeginsIn : PageStore → Folder → List ℕ → Type 0
BeginsIn store folder name = (n : ℕ) → name_at store n ≡ Some name → HasHeader store folder name

-- the groups tell of each table that has a slot
abbrev pub AreToldOf : PageStore → List Logged → Type 0
AreToldOf store groups = (n : ℕ) (name : List ℕ) → name_at store n ≡ Some name → needs_slot name groups ≡ true

-- ---- what is no header

-- it is sound, and has another magic
abbrev pub HasOtherMagic : Seen → Type 0
HasOtherMagic None = ⊥
HasOtherMagic (Some s) = has_magic s.1 ≡ false

-- it isn't sound, or has the magic and another kind
abbrev pub IsNoHeader : Seen → Type 0
IsNoHeader None = ⊤
IsNoHeader (Some s) = (has_magic s.1 ≡ true) × (¬ (slice_index s.1 0 ≡ kind_byte page_kinds.Header))

-- What is wrong with a body that should be a header's: another magic, or another kind.
abbrev pub OfBody : List ℕ → FileName → Fault → Type 0
OfBody body file (NotOurs f) = (f ≡ file) × (has_magic body ≡ false)
OfBody body file (PageDamaged f n) = (f ≡ file) × (n ≡ 0) × (has_magic body ≡ true) × (¬ (slice_index body 0 ≡ kind_byte page_kinds.Header))
OfBody body file _ = ⊥

-- ---- as memory and the files have it

-- the number of the first page of a slot's index file
abbrev pub first_key : ℕ → ℕ
first_key n = key_of (record { slot = n; part = Keys; page = 0 })

-- a page as it is held, or else as its file has it
abbrev pub seen_at : PageStore → Folder → ℕ → Seen
seen_at store folder key = option_map_or (λ h. Some (as_seen h)) (held store.frames key) (raw store folder key)

-- Why a slot's table doesn't begin with a header: the disk failed; its first page has another magic; it isn't sound or has
-- another kind; or it is ahead of the log, which is damaged at its end then.
abbrev pub OfHeader : Bool → PageStore → ℕ → List ℕ → State → State → Fault → Type 0
OfHeader tells store n name old new Disk = Rose old.disk_faults new.disk_faults
OfHeader tells store n name old new (NotOurs f) = (f ≡ file name Keys) × (IsTrue tells → HasOtherMagic (seen_at store old.folder (first_key n)))
OfHeader tells store n name old new (PageDamaged f page) = (f ≡ file name Keys) × (page ≡ 0) × (IsTrue tells → IsNoHeader (seen_at store old.folder (first_key n)))
OfHeader tells store n name old new (LogDamaged f page) = (LogDamaged f page ≡ damaged_at (lsn_at_place (place store.log))) × (IsTrue tells → late_seen (next_number store) (seen_at store old.folder (first_key n)) ≡ true)
OfHeader tells store n name old new _ = ⊥

-- the same of some slot
pub record OfHeaders (tells : Bool) (store : PageStore) (old new : State) (fault : Fault) : Type 0 where
  pub slot : ℕ
  pub name : List ℕ
  pub named : name_at store slot ≡ Some name
  pub why : OfHeader tells store slot name old new fault

-- Tables begin with headers, or one doesn't. Faults of the disk are counted, and come with no other answer.
pub record HasHeaderCause {T : Type 0} (tells : Bool) (store : PageStore) (old new : State) (result : Result T Fault) : Type 0 where
  pub only : IfErr result (OfHeaders tells store old new)
  pub calm : OnOk result (new.disk_faults ≡ old.disk_faults)
  pub later : old.disk_faults ≤ new.disk_faults
  pub tell : new.tell_faults ≡ old.tell_faults

-- ---- as the groups make it

-- the first page of a table's index file, once these groups are made again; nothing where it isn't sound
abbrev pub header_of : Folder → List Logged → List ℕ → Seen
header_of folder groups name = page_in (tables_of folder groups name) Keys 0

-- A table of which the groups tell doesn't begin with a header once they are made again: its first page is sound and has
-- another magic; it isn't sound, or has another kind; or it is ahead of the log, whose end is told.
abbrev pub OfRedoneHeader : ℕ → List Logged → Folder → Fault → Type 0
OfRedoneHeader base groups folder (NotOurs f) = (name : List ℕ) × (needs_slot name groups ≡ true) × (f ≡ file name Keys) × HasOtherMagic (header_of folder groups name)
OfRedoneHeader base groups folder (PageDamaged f n) = (name : List ℕ) × (needs_slot name groups ≡ true) × (f ≡ file name Keys) × (n ≡ 0) × IsNoHeader (header_of folder groups name)
OfRedoneHeader base groups folder (LogDamaged f n) = (name : List ℕ) × (needs_slot name groups ≡ true) × (end : ℕ) × HoldsLog (log_files folder) base groups end
    × (LogDamaged f n ≡ damaged_at (lsn_at_place (8176 * end))) × (late_seen (number_at (8176 * end)) (header_of folder groups name) ≡ true)
OfRedoneHeader base groups folder _ = ⊥
