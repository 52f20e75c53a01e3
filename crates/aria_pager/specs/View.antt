-- A pager, as callers of pages see it.
use Rattle.std.specs.Prelude.{◌≡◌, ◌==◌, ◌&&◌, if◌then◌else◌, ℕ, suc, ◌-◌, ◌^◌, ◌≤◌, Bool, true, false, not, nat_lt, Option, None, Some, is_some, List, [], ◌∷◌, length, reverse, unwrap_or, All}
use Rattle.std.specs.List.{AllByRecursion}
use Rattle.std.specs.Option.{option_map_or, option_and_then}
use Rattle.aria_page.specs.Lsn.{IsLsn}
use Rattle.aria_page.specs.declared.place.Part.{Part}
use Rattle.aria_page.specs.declared.place.Part.TheVariants as parts
use Rattle.aria_page.specs.Page.{zero_page, page_body}
use Rattle.aria_page.specs.declared.page.TheConstants.{BODY_BYTES}
use Rattle.aria_host.specs.declared.file_name.FileName.{FileName}
use Rattle.aria_host.specs.declared.file_name.FileName.TheVariants.{Keys, Rows}
use Rattle.aria_host.specs.Folder.{Folder}
use Rattle.aria_host.specs.State.{State}
use Rattle.aria_record.specs.declared.group_writer.GroupWriter.{GroupWriter}
use Rattle.aria_record.specs.declared.record.Record.{Record}
use Rattle.aria_record.specs.Groups.{is_redo}
use Rattle.aria_record.specs.Writing.{IsWriting, records_of, size_of}
use Rattle.aria_log.specs.Log.{log_pages}
use Rattle.aria_cache.specs.Frames.{Held, held, front}
use Rattle.aria_cache.specs.Key.{key_of}
use Rattle.aria_cache.specs.PageState.{PageState}
use Rattle.aria_recovery.specs.Redo.{Seen, body_of}
use Rattle.aria_recovery.specs.Images.{page_of}
use Rattle.aria_pager.specs.declared.page_store.PageStore.{PageStore}
use Rattle.aria_pager.specs.declared.slot.Slot.{Slot}
use Rattle.aria_pager.specs.PageStore.{name_at, sizes_at, stands_for, late_seen}
use Rattle.aria_pager.specs.Pager.{known, next_number}

-- the first slot that stands for a table, from a number on
abbrev pub slot_from : List ℕ → ℕ → List Slot → Option ℕ
slot_from name n [] = None
slot_from name n (slot ∷ slots) = if stands_for name slot then Some n else slot_from name (suc n) slots

abbrev pub slot_of : PageStore → List ℕ → Option ℕ
slot_of store name = slot_from name 0 store.slots

-- how many pages a file has, by both of its table's; a table without a slot has none
abbrev pub size_in : Part → ℕ × ℕ → ℕ
size_in parts.Keys sizes = sizes.0
size_in parts.Rows sizes = sizes.1

abbrev pub count_at : PageStore → Part → Option ℕ → ℕ
count_at store part None = 0
count_at store part (Some n) = option_map_or (size_in part) (sizes_at store n) 0

-- the frame of a page of a slot, if it is held
abbrev pub frame_at : PageStore → ℕ → Part → ℕ → Option Held
frame_at store n part page = if nat_lt page (2 ^ 31) then held store.frames (key_of (record { slot = n; part = part; page = page })) else None

-- what is held of a page, or else what its file has
abbrev pub body_or : Seen → Option Held → Option (List ℕ)
body_or x frame = option_map_or (λ h. Some h.body) frame (body_of x)

-- a body, where it has a body's length
abbrev pub whole_body : Option (List ℕ) → Option (List ℕ)
whole_body body = option_and_then (λ b. if length b == BODY_BYTES then Some b else None) body

-- the body of a page: as it is held, or else as it is in the file; zeros from the count on
abbrev pub body_at : PageStore → Folder → List ℕ → Part → ℕ → Option ℕ → Option (List ℕ)
body_at store folder name part page None = Some (page_body zero_page)
body_at store folder name part page (Some n) = if nat_lt page (count_at store part (Some n)) then whole_body (body_or (page_of folder name part page) (frame_at store n part page)) else Some (page_body zero_page)

-- it isn't held, and its log sequence number isn't before the log's end
abbrev pub late_at : PageStore → Folder → List ℕ → Part → ℕ → Option ℕ → Bool
late_at store folder name part page None = false
late_at store folder name part page (Some n) = not (is_some (frame_at store n part page)) && late_seen (next_number store) (page_of folder name part page)

abbrev pub page_counts : PageStore → FileName → ℕ
page_counts store (Keys name) = count_at store parts.Keys (slot_of store name)
page_counts store (Rows name) = count_at store parts.Rows (slot_of store name)
page_counts store _ = 0

abbrev pub page_bodies : PageStore → Folder → FileName → ℕ → Option (List ℕ)
page_bodies store folder (Keys name) n = body_at store folder name parts.Keys n (slot_of store name)
page_bodies store folder (Rows name) n = body_at store folder name parts.Rows n (slot_of store name)
page_bodies store folder _ n = Some (page_body zero_page)

abbrev pub page_late : PageStore → Folder → FileName → ℕ → Bool
page_late store folder (Keys name) n = late_at store folder name parts.Keys n (slot_of store name)
page_late store folder (Rows name) n = late_at store folder name parts.Rows n (slot_of store name)
page_late store folder _ n = false

-- the body that is lent: that of the page that was used last
abbrev pub loaded_body : PageStore → List ℕ
loaded_body store = option_map_or (λ h. h.body) (front store.frames) (page_body store.blank)

abbrev pub some_record : List Record → Bool
some_record [] = false
some_record (r ∷ rs) = true

abbrev pub pages_of : PageStore → State → PageState
pages_of store s = record {
  is_open = λ n. is_some (name_at store n);
  name = λ n. unwrap_or (name_at store n) [];
  counts = page_counts store;
  bodies = page_bodies store s.folder;
  late = page_late store s.folder;
  in_group = store.in_group;
  edited = some_record (records_of store.writer);
  edits = records_of store.writer;
  touched = length store.frames.pins.items;
  made = store.made;
  bytes = size_of store.writer - 5;
  pending = reverse store.pending.items;
  reach = log_pages store.log;
  kept = store.kept;
  loaded = loaded_body store;
  lent = store.lent;
  faults = s.disk_faults;
}

-- the writer spells edits of pages, or nothing yet
pub record HasEdits (writer : GroupWriter) : Type 0 where
  pub writing : IsWriting writer
  pub redo : AllByRecursion (λ r. is_redo r ≡ true) (records_of writer)

-- What holds whatever the host tells: no two slots stand for one table, which is known by its slot, and no file has too many
-- pages. A group that isn't open has no entry, and one that is has edits alone, where no fault is kept. The pending numbers can be stored.
pub record IsTidy (store : PageStore) : Type 0 where
  pub one : (n m : ℕ) (name : List ℕ) → name_at store n ≡ Some name → name_at store m ≡ Some name → n ≡ m
  pub known : (n : ℕ) (name : List ℕ) → name_at store n ≡ Some name → known store name ≡ Some (Some n)
  pub few : (n : ℕ) (part : Part) (sizes : ℕ × ℕ) → sizes_at store n ≡ Some sizes → size_in part sizes ≤ 2 ^ 31
  pub closed : store.in_group ≡ false → store.kept ≡ None → records_of store.writer ≡ []
  pub edits : store.kept ≡ None → HasEdits store.writer
  pub undo : All IsLsn store.pending.items
