-- What calls that append one group of their own do.
use Rattle.std.specs.Prelude.{◌≡◌, if◌then◌else◌, ℕ, Bool, true, false, IsTrue, List, [], ◌∷◌, ◌++◌}
use Rattle.std.specs.Global.{Vec}
use Rattle.aria_page.specs.declared.lsn.Lsn.{Lsn}
use Rattle.aria_page.specs.declared.place.Part.{Part}
use Rattle.aria_page.specs.declared.place.Part.TheVariants.{Keys, Rows}
use Rattle.aria_host.specs.declared.file_name.FileName.{FileName}
use Rattle.aria_host.specs.declared.file_name.FileName.TheVariants as files
use Rattle.aria_host.specs.Folder.{Folder}
use Rattle.aria_host.specs.State.{State}
use Rattle.aria_record.specs.declared.group_writer.GroupWriter.{GroupWriter}
use Rattle.aria_record.specs.declared.record.Record.{Record}
use Rattle.aria_record.specs.Logged.{Logged}
use Rattle.aria_log.specs.declared.log.Log.{Log as LogValue}
use Rattle.aria_log.specs.Log.{place}
use Rattle.aria_recovery.specs.Moves.{Moves}
use Rattle.aria_pager.specs.declared.page_store.PageStore.{PageStore}
use Rattle.aria_pager.specs.PageStore.{opened}
use Rattle.aria_pager.specs.Pager.{HasFront, HaveFronts, IsPager, Standing}

-- the same with another log and other pending undo records
abbrev pub with_commit : PageStore → LogValue → Vec Lsn → PageStore
with_commit store log pending = record {
  log = log;
  started = store.started;
  frames = store.frames;
  writer = store.writer;
  in_group = store.in_group;
  made = store.made;
  slots = store.slots;
  tables = store.tables;
  pending = pending;
  lent = store.lent;
  kept = store.kept;
  blank = store.blank;
}

-- the same with another log and another open group
abbrev pub with_alone : PageStore → LogValue → GroupWriter → PageStore
with_alone store log writer = record {
  log = log;
  started = store.started;
  frames = store.frames;
  writer = writer;
  in_group = store.in_group;
  made = store.made;
  slots = store.slots;
  tables = store.tables;
  pending = store.pending;
  lent = store.lent;
  kept = store.kept;
  blank = store.blank;
}

-- the group that holds one record, at the log's end
abbrev pub alone : PageStore → Record → Logged
alone store r = record { at = place store.log; group = r ∷ [] }

-- the group, or none
abbrev pub only : Bool → Logged → List Logged
only added g = if added then g ∷ [] else []

-- The group was appended where the call is done, and else it was or it wasn't.
pub record Turns (store store' : PageStore) (s s' : State) (base : ℕ) (start : Folder) (groups : List Logged) (forced : ℕ) (g : Logged) (done : Bool) : Type 0 where
  pub added : Bool
  pub forced' : ℕ
  pub moves : Moves (HasFront base) (opened store') s s' groups (groups ++ only added g) forced forced'
  pub fronts : HaveFronts base s' (groups ++ only added g) forced'
  pub whole : IsTrue done → added ≡ true
  pub pager : IsTrue done → IsPager store' s' base start (groups ++ g ∷ []) forced'

-- The same between calls, where a fault may be kept: the group was appended where the call is done, and else it was or it
-- wasn't.
pub record Turned (store store' : PageStore) (s s' : State) (base : ℕ) (start : Folder) (groups : List Logged) (forced : ℕ) (g : Logged) (done : Bool) : Type 0 where
  pub added : Bool
  pub forced' : ℕ
  pub standing : Standing store' s' base start (groups ++ only added g) forced'
  pub moves : Moves (HasFront base) (opened store') s s' groups (groups ++ only added g) forced forced'
  pub whole : IsTrue done → added ≡ true

-- the files that a repair writes beside a table's
abbrev pub new_file : List ℕ → Part → FileName
new_file name Keys = files.NewKeys name
new_file name Rows = files.NewRows name

-- it is such a file
abbrev pub is_aside : FileName → Bool
is_aside (files.NewKeys name) = true
is_aside (files.NewRows name) = true
is_aside f = false

-- all of them stay
abbrev pub KeepsAside : Folder → Folder → Type 0
KeepsAside old new = (f : FileName) → is_aside f ≡ true → new f ≡ old f
