-- What memory holds of the pages of tables' files, by keys.
use Rattle.std.specs.Prelude.{◌≡◌, ◌==◌, ◌&&◌, ◌-◌, ◌<◌, ℕ, Bool, true, false, nat_eq, nat_lt, Option, None, Some, List, [], length, take, if◌then◌else◌}
use Rattle.std.specs.Option.{option_map_or}
use Rattle.aria_page.specs.Edit.{all_edited}
use Rattle.aria_page.specs.declared.edit.Edit.{Edit}
use Rattle.aria_page.specs.declared.place.Part.{Part}
use Rattle.aria_host.specs.Folder.{Folder, same_file}
use Rattle.aria_cache.specs.Frames.{Held}
pub use Rattle.aria_cache.specs.Frames.{dirty_of}
use Rattle.aria_record.specs.declared.record.Record.{Record}
use Rattle.aria_record.specs.Logged.{Logged}
use Rattle.aria_recovery.specs.Redo.{Seen, edits_on, is_some_edit, is_before, topped, redo}
use Rattle.aria_recovery.specs.Tables.{file, life_of}
use Rattle.aria_recovery.specs.Images.{page_of}

abbrev pub Frames : Type 0
Frames = ℕ → Option Held

abbrev pub as_seen : Held → ℕ × List ℕ
as_seen h = (h.lsn, h.body)

abbrev pub is_dirty : Frames → ℕ → Bool
is_dirty frames k = dirty_of (frames k)

-- What is held of one page: raw is what its file has, made what groups make of that, and edits those of the open group,
-- which will have the number `at`. Pages of known keys alone are held, and each stands before `next`.
pub record PageOn (known : Bool) (frame : Option Held) (pin : Bool) (raw made : Seen) (edits : List Edit) (at next : ℕ) : Type 0 where
  -- it is held as groups make it, with the open group's edits on top where that stands behind it
  pub held : (h : Held) → frame ≡ Some h → topped at edits made ≡ Some (as_seen h)
  pub is_known : (h : Held) → frame ≡ Some h → known ≡ true
  pub below : (h : Held) → frame ≡ Some h → h.lsn < next
  -- where it isn't held, or is held clean, it is in its file as groups make it
  pub clean : dirty_of frame ≡ false → made ≡ raw
  -- where the open group changes it, it is pinned and dirty
  pub pinned : pin ≡ (is_some_edit edits && is_before at made)
  pub on_top : pin ≡ true → dirty_of frame ≡ true

-- what frames hold, by keys
abbrev pub FrameOn : (ℕ → Bool) → Frames → (ℕ → Bool) → (ℕ → Seen) → (ℕ → Seen) → (ℕ → List Edit) → ℕ → ℕ → Type 0
FrameOn known frames pins raw made edits at next = (k : ℕ) → PageOn (known k) (frames k) (pins k) (raw k) (made k) (edits k) at next

-- ---- the pages of many files

-- where the page of a key lies
pub record Spot : Type 0 where
  pub name : List ℕ
  pub part : Part
  pub page : ℕ

abbrev pub same_spot : Spot → Spot → Bool
same_spot a b = same_file (file a.name a.part) (file b.name b.part) && (a.page == b.page)

-- nothing where a key stands for no page
abbrev pub Spots : Type 0
Spots = ℕ → Option Spot

-- the page as its file has it
abbrev pub raw_at : Folder → Option Spot → Seen
raw_at d spot = option_map_or (λ s. page_of d s.name s.part s.page) spot None

-- where the groups begin that count for a name: behind the last one that makes or drops its files
abbrev pub base_of : List ℕ → List Logged → ℕ
base_of name groups = length groups - length (life_of name groups).since

-- of so many groups in front, those that count for the name
abbrev pub front_of : List ℕ → List Logged → ℕ → List Logged
front_of name groups i = take (i - base_of name groups) (life_of name groups).since

-- the page as so many groups in front make it
abbrev pub redone_at : List Logged → ℕ → Option Spot → Seen → Seen
redone_at groups i spot x = option_map_or (λ s. redo s.name s.part s.page (front_of s.name groups i) x) spot x

-- the edits of the next group that count for the page
abbrev pub edits_of : List Logged → ℕ → List Record → Option Spot → List Edit
edits_of groups i records spot = option_map_or (λ s. if nat_lt i (base_of s.name groups) then [] else edits_on s.name s.part s.page records) spot []

-- no two keys stand for one page
abbrev pub AreApart : Spots → Type 0
AreApart place = (k j : ℕ) (s t : Spot) → place k ≡ Some s → place j ≡ Some t → same_spot s t ≡ true → nat_eq k j ≡ true

-- how many of the groups in front are redone on the page of each key
abbrev pub Progress : Type 0
Progress = ℕ → ℕ

-- all of them, on each page
abbrev pub all_of : List Logged → Progress
all_of groups k = length groups

-- What frames hold over a folder, once so many groups in front are redone on each page. These are records of the group that
-- follows those, which will have the number `at`.
abbrev pub FramesOver : (ℕ → Bool) → Frames → (ℕ → Bool) → Spots → Folder → List Logged → Progress → List Record → ℕ → ℕ → Type 0
FramesOver known frames pins place d groups redone records at next =
    FrameOn known frames pins (λ k. raw_at d (place k)) (λ k. redone_at groups (redone k) (place k) (raw_at d (place k))) (λ k. edits_of groups (redone k) records (place k)) at next
