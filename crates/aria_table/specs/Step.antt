-- A step of an operation on a table: one group of the log, whose record takes the step back.
use Rattle.std.specs.Prelude.{if◌then◌else◌, false, ◌≡◌, ⊤, ℕ, ◌+◌, ◌*◌, ◌-◌, ◌^◌, ◌<◌, ◌≤◌, ◌⊎◌, Bool, IsTrue, length, None, Some, List, [], ◌∷◌, ◌++◌}
use Rattle.aria_page.specs.declared.group.Last.{Last}
use Rattle.aria_page.specs.declared.lsn.Lsn.{Lsn}
use Rattle.aria_page.specs.declared.place.Places.{Places}
use Rattle.aria_host.specs.declared.fault.Fault.{Fault}
use Rattle.aria_host.specs.declared.fault.Fault.TheVariants.{Memory, Disk, PageDamaged, LogDamaged, LogSpent}
use Rattle.aria_host.specs.declared.file_name.FileName.{FileName}
use Rattle.aria_host.specs.Count.{Rose}
use Rattle.aria_host.specs.Folder.{same_file}
use Rattle.aria_record.specs.Logged.{Logged, lsn_at_place}
use Rattle.aria_record.specs.declared.record.Record.{Record}
use Rattle.aria_cache.specs.PageState.{PageState, Bodies, edits_applied, applied}
use Rattle.aria_cache.specs.Ending.{newest, pending_after}
use Rattle.aria_cache.specs.Calls.{SameSlots, SameLog}
use Rattle.aria_record.specs.Writing.{last_record}
use Rattle.aria_block.specs.Causes.{rows_file}
use Rattle.aria_block.specs.Reading.{FitsHead}
use Rattle.aria_block.specs.Rows.{Kept}
use Rattle.aria_key.specs.Reading.{keys_file}
use Rattle.std.specs.Map.{lookup}
use Rattle.aria_table.specs.Content.{Content, same_entry, TakesBack}
use Rattle.aria_table.specs.Holds.{HasContent}

-- the files of a slot hold this content
abbrev pub HoldsContent : (List ℕ → Bool) → ℕ → ℕ → PageState → Content → Type 0
HoldsContent is_row keys slot s c = HasContent is_row keys (s.counts (keys_file s slot)) (s.bodies (keys_file s slot)) (s.counts (rows_file s slot)) (s.bodies (rows_file s slot)) c

-- They hold a content then that the record takes back to the one before.
pub record StepsTo (is_row : List ℕ → Bool) (keys slot : ℕ) (did : Last) (before now : Content) (new : PageState) : Type 0 where
  pub held : HoldsContent is_row keys slot new now
  pub back : TakesBack keys did before now

-- Exactly one group ended, with this record behind its edits, and is the newest that is pending. The edits make the pages what
-- they are from what they were.
pub record EndsOne {S : Type 0} (tells logged : Bool) (ends : S → S → List Logged → Type 0) (state : S → PageState) (slot : ℕ) (did : Last) (old new : S) : Type 0 where
  pub at : ℕ
  pub edits : List Record
  pub lsn : Lsn
  pub is : IsTrue logged → lsn ≡ lsn_at_place at
  pub moves : ends old new (record { at = at; group = edits ++ last_record ((state old).name slot) (newest (state old).pending) did ∷ [] } ∷ [])
  pub applies : IsTrue tells → IsTrue logged → (state new).bodies ≡ applied (record { at = at; group = edits ++ last_record ((state old).name slot) (newest (state old).pending) did ∷ [] } ∷ []) (state old).bodies
  pub pending : (state new).pending ≡ (if logged then pending_after lsn did (state old).pending else (state old).pending)

-- the files of other tables keep their pages
pub record LeavesOthers (tells : Bool) (slot : ℕ) (old new : PageState) : Type 0 where
  pub counts : (f : FileName) → same_file (keys_file old slot) f ≡ false → same_file (rows_file old slot) f ≡ false → new.counts f ≡ old.counts f
  pub bodies : IsTrue tells → (f : FileName) → same_file (keys_file old slot) f ≡ false → same_file (rows_file old slot) f ≡ false → new.bodies f ≡ old.bodies f

-- no page was changed, and no group ended
pub record Unchanged (tells : Bool) (old new : PageState) : Type 0 where
  pub slots : SameSlots old new
  pub log : SameLog old new
  pub counts : new.counts ≡ old.counts
  pub bodies : IsTrue tells → new.bodies ≡ old.bodies

-- one of the two files of a slot
abbrev pub IsOfTable : PageState → ℕ → FileName → Type 0
IsOfTable s slot file = (file ≡ keys_file s slot) ⊎ (file ≡ rows_file s slot)

-- The pages of a table are read or edited: the disk fails, or they don't hold what is asked of them, or one of them is ahead
-- of the log, or the log has no room for so many bytes more.
abbrev pub OfTable : Bool → Bool → Type 0 → ℕ → ℕ → PageState → PageState → Fault → Type 0
OfTable tells logged Asked slot bytes old new (Memory e) = ⊤
OfTable tells logged Asked slot bytes old new Disk = Rose old.faults new.faults
OfTable tells logged Asked slot bytes old new (PageDamaged f n) = IsOfTable old slot f × (IsTrue tells → Asked → ⊥)
OfTable tells logged Asked slot bytes old new (LogDamaged f n) = IsTrue logged × (IsTrue tells → (g : FileName) × (m : ℕ) × IsTrue (old.late g m))
OfTable tells logged Asked slot bytes old new (LogSpent f) = IsTrue logged × (8176 * (2 ^ 34 - 1) < 8176 * old.reach + bytes)
OfTable tells logged Asked slot bytes old new _ = ⊥

-- the files of a slot hold some content
pub record HasSomeContent (slot : ℕ) (s : PageState) : Type 0 where
  pub is_row : List ℕ → Bool
  pub keys : ℕ
  pub content : Content
  pub held : HoldsContent is_row keys slot s content

-- the open group's edits make the pages from where it began
abbrev pub Applies : PageState → PageState → Type 0
Applies old new = (start : Bodies) → old.bodies ≡ edits_applied old.edits start → new.bodies ≡ edits_applied new.edits start

-- and there is a row with these places among it
pub record HasRowIn (places : Places) (slot : ℕ) (s : PageState) : Type 0 where
  pub is_row : List ℕ → Bool
  pub keys : ℕ
  pub content : Content
  pub held : HoldsContent is_row keys slot s content
  pub row : List ℕ
  pub there : content.kept places.head.page places.head.slot ≡ Some (record { places = places; row = row })
  pub fits : FitsHead (record { places = places; row = row })

-- and a key has no such entry, with fewer than 2^24 others, and the index file has room
pub record LacksEntry (key : ℕ) (entry : List ℕ) (slot : ℕ) (s : PageState) : Type 0 where
  pub is_row : List ℕ → Bool
  pub keys : ℕ
  pub content : Content
  pub held : HoldsContent is_row keys slot s content
  pub low : key < keys
  pub none : lookup (same_entry entry) (content.walks key) ≡ None
  pub few : length (content.walks key) < 2 ^ 24
  pub room : s.counts (keys_file s slot) + 32 ≤ 2 ^ 31

-- and a key has such an entry, with fewer than 2^24 in all, and the index file has room
pub record HasEntryIn (key : ℕ) (entry : List ℕ) (slot : ℕ) (s : PageState) : Type 0 where
  pub is_row : List ℕ → Bool
  pub keys : ℕ
  pub content : Content
  pub held : HoldsContent is_row keys slot s content
  pub low : key < keys
  pub target : ℕ
  pub there : lookup (same_entry entry) (content.walks key) ≡ Some target
  pub few : length (content.walks key) < 2 ^ 24
  pub room : s.counts (keys_file s slot) + 32 ≤ 2 ^ 31
