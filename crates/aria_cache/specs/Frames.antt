-- What frames hold: a map from the numbers of pages.
use Rattle.std.specs.Prelude.{◌==◌, ℕ, ◌/◌, ◌^◌, Bool, true, false, not, nat_eq, if◌then◌else◌, length, List, [], ◌∷◌, ◌++◌, reverse, map, slice_get, Option, None}
use Rattle.std.specs.Option.{option_map, option_map_or}
use Rattle.std.specs.List.{list_any, filter, find}
use Rattle.std.specs.Map.{keys_of, lookup}
use Rattle.aria_page.specs.Page.{page_body}
use Rattle.aria_page.specs.declared.edit.Edit.{Edit}
use Rattle.aria_page.specs.Edit.{all_edited}
use Rattle.aria_page.specs.Lsn.{lsn_number}
use Rattle.aria_cache.specs.declared.frames.Frame.{Frame}
use Rattle.aria_cache.specs.declared.frames.Frames.{Frames}

-- A page that is held: the number of its log sequence number, its body, and whether the file may have another.
pub record Held : Type 0 where
  pub lsn : ℕ
  pub body : List ℕ
  pub dirty : Bool

abbrev pub shown : Frame → Held
shown f = record { lsn = lsn_number f.lsn; body = page_body f.page.value; dirty = f.dirty }

-- the page of each number, where it is held
abbrev pub held : Frames → ℕ → Option Held
held frames = λ k. option_map shown (lookup (nat_eq k) frames.cache.entries)

-- how many are held, and how many there may be
abbrev pub count : Frames → ℕ
count frames = length frames.cache.entries

abbrev pub room : Frames → ℕ
room frames = frames.cache.cap

-- the page is pinned
abbrev pub is_pinned : Frames → ℕ → Bool
is_pinned frames k = list_any (nat_eq k) frames.pins.items

-- the file may have another page than is held
abbrev pub dirty_of : Option Held → Bool
dirty_of frame = option_map_or (λ h. h.dirty) frame false

-- the keys of the dirty ones of these entries
abbrev pub dirty_keys : List (ℕ × Frame) → List ℕ
dirty_keys es = keys_of (filter (λ e. e.1.dirty) es)

-- the pages but for those of a slot
abbrev pub without_slot : ℕ → (ℕ → Option Held) → ℕ → Option Held
without_slot slot map = λ k. if k / 2 ^ 32 == slot then None else map k

-- those of these entries that are of other slots
abbrev pub others : ℕ → List (ℕ × Frame) → List (ℕ × Frame)
others slot es = filter (λ e. not (e.0 / 2 ^ 32 == slot)) es

-- The first entry is taken out if it is of the slot, and else goes last.
abbrev pub turned : ℕ → List (ℕ × Frame) → List (ℕ × Frame)
turned slot [] = []
turned slot (e ∷ es) = if e.0 / 2 ^ 32 == slot then es else es ++ e ∷ []

-- a page after edits, and one that ends a group
abbrev pub edited_held : List Edit → Held → Held
edited_held edits h = record { lsn = h.lsn; body = all_edited edits h.body; dirty = true }

abbrev pub stamped : ℕ → Held → Held
stamped lsn h = record { lsn = lsn; body = h.body; dirty = h.dirty }

-- a page after the edits of a group of the log
abbrev pub redone_held : ℕ → List Edit → Held → Held
redone_held lsn edits h = record { lsn = lsn; body = all_edited edits h.body; dirty = true }

-- a page that the file has as it is held
abbrev pub cleaned : Held → Held
cleaned h = record { lsn = h.lsn; body = h.body; dirty = false }

-- each of these pages has that log sequence number
abbrev pub stamp_all : List ℕ → ℕ → (ℕ → Option Held) → ℕ → Option Held
stamp_all pins lsn map = λ k. if list_any (nat_eq k) pins then option_map (stamped lsn) (map k) else map k

-- the page that was used last
abbrev pub front : Frames → Option Held
front frames = option_map (λ e. shown e.1) (slice_get frames.cache.entries 0)

-- the last of these entries that isn't pinned
abbrev pub last_free : Frames → List (ℕ × Frame) → Option ℕ
last_free frames es = find (λ k. not (is_pinned frames k)) (map (λ e. e.0) (reverse es))

-- the least recently used page that isn't pinned
abbrev pub victim_of : Frames → Option ℕ
victim_of frames = last_free frames frames.cache.entries
