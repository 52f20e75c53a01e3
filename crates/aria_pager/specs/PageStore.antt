-- What a pager keeps, and the pages that it speaks of.
use Rattle.std.specs.Prelude.{◌&&◌, if◌then◌else◌, ℕ, zero, suc, ◌+◌, ◌/◌, ◌%◌, ◌^◌, max, Bool, false, nat_eq, nat_lt, nat_le, Option, None, Some, is_some, List, [], ◌∷◌, slice_get}
use Rattle.std.specs.Option.{option_map, option_map_or, option_and_then}
use Rattle.std.specs.List.{list_any}
use Rattle.aria_page.specs.declared.place.Part.{Part}
use Rattle.aria_page.specs.declared.place.Part.TheVariants.{Keys, Rows}
use Rattle.aria_value.specs.Named.{same_name}
use Rattle.aria_cache.specs.declared.page_id.PageId.{PageId}
use Rattle.aria_host.specs.Folder.{Folder}
use Rattle.aria_host.specs.declared.fault.Fault.{Fault}
use Rattle.aria_record.specs.declared.group_writer.GroupWriter.{GroupWriter}
use Rattle.aria_cache.specs.declared.frames.Frames.{Frames}
use Rattle.aria_recovery.specs.Redo.{Seen}
use Rattle.aria_recovery.specs.Frames.{Spot, raw_at}
use Rattle.aria_pager.specs.declared.page_store.PageStore.{PageStore}
use Rattle.aria_pager.specs.declared.slot.Slot.{Slot}

-- ---- slots

-- the name of the table that a slot stands for
abbrev pub name_in : Slot → Option (List ℕ)
name_in slot = if slot.used then Some slot.name else None

abbrev pub name_at : PageStore → ℕ → Option (List ℕ)
name_at store n = option_and_then name_in (slice_get store.slots n)

-- how many pages its files have
abbrev pub sizes_in : Slot → ℕ × ℕ
sizes_in slot = (slot.keys.pages, slot.rows.pages)

abbrev pub sizes_at : PageStore → ℕ → Option (ℕ × ℕ)
sizes_at store n = option_map sizes_in (slice_get store.slots n)

-- one file has at least so many pages
abbrev pub grown : Part → ℕ → ℕ × ℕ → ℕ × ℕ
grown Keys n sizes = (max sizes.0 n, sizes.1)
grown Rows n sizes = (sizes.0, max sizes.1 n)

-- the sizes after a page was edited
abbrev pub sizes_after : PageId → (ℕ → Option (ℕ × ℕ)) → ℕ → Option (ℕ × ℕ)
sizes_after at sizes n = if nat_eq at.slot n then option_map (grown at.part (at.page + 1)) (sizes n) else sizes n

-- a slot stands for the table
abbrev pub stands_for : List ℕ → Slot → Bool
stands_for name slot = slot.used && same_name slot.name name

-- the tables that slots stand for
abbrev pub opened : PageStore → List ℕ → Bool
opened store name = list_any (stands_for name) store.slots

-- the slots with another one at that place
abbrev pub set_at : List Slot → ℕ → Slot → List Slot
set_at [] n y = []
set_at (x ∷ xs) zero y = y ∷ xs
set_at (x ∷ xs) (suc n) y = x ∷ set_at xs n y

-- ---- pages by their keys

abbrev pub part_of_key : ℕ → Part
part_of_key key = if nat_lt (key % 2 ^ 32) (2 ^ 31) then Keys else Rows

-- the page that has this key, where its slot stands for a table
abbrev pub spot_of : PageStore → ℕ → Option Spot
spot_of store key = option_map (λ name. record { name = name; part = part_of_key key; page = key % 2 ^ 31 }) (name_at store (key / 2 ^ 32))

-- the slot of the key stands for a table
abbrev pub is_known : PageStore → ℕ → Bool
is_known store key = is_some (spot_of store key)

-- the page as the folder has it, or zeros past its file's end
abbrev pub raw : PageStore → Folder → ℕ → Seen
raw store folder key = raw_at folder (spot_of store key)

-- its log sequence number isn't before the log's end
abbrev pub late_seen : ℕ → Seen → Bool
late_seen next x = option_map_or (λ s. nat_le next s.0) x false

-- ---- the same but for one part

abbrev pub with_frames : PageStore → Frames → PageStore
with_frames store frames = record {
  log = store.log;
  started = store.started;
  frames = frames;
  writer = store.writer;
  in_group = store.in_group;
  made = store.made;
  slots = store.slots;
  tables = store.tables;
  pending = store.pending;
  lent = store.lent;
  kept = store.kept;
  blank = store.blank;
}

abbrev pub with_writer : PageStore → GroupWriter → PageStore
with_writer store writer = record {
  log = store.log;
  started = store.started;
  frames = store.frames;
  writer = writer;
  in_group = store.in_group;
  made = store.made;
  slots = store.slots;
  tables = store.tables;
  pending = store.pending;
  lent = store.lent;
  kept = store.kept;
  blank = store.blank;
}

-- with other numbers of the open group, another count of pages lent and another fault that is kept
abbrev pub with_rest : PageStore → Bool → ℕ → ℕ → Option Fault → PageStore
with_rest store in_group made lent kept = record {
  log = store.log;
  started = store.started;
  frames = store.frames;
  writer = store.writer;
  in_group = in_group;
  made = made;
  slots = store.slots;
  tables = store.tables;
  pending = store.pending;
  lent = lent;
  kept = kept;
  blank = store.blank;
}
