-- Groups are redone page by page: what is redone on each page while one group is.
use Rattle.std.specs.Prelude.{◌≡◌, ◌⊎◌, ◌+◌, ◌≤◌, if◌then◌else◌, ℕ, Bool, true, false, nat_eq, nat_lt, Some, List, ◌∷◌, ◌++◌, length}
use Rattle.aria_page.specs.Lsn.{lsn_number}
use Rattle.aria_page.specs.declared.lsn.Lsn.{Lsn}
use Rattle.aria_record.specs.declared.record.Record.{Record}
use Rattle.aria_record.specs.Logged.{Logged}
use Rattle.aria_recovery.specs.declared.life.Told.{Told}
use Rattle.aria_recovery.specs.declared.life.Told.TheVariants.{Nothing, Dropped, Made}
use Rattle.aria_recovery.specs.Redo.{is_some_edit, touches}
use Rattle.aria_recovery.specs.Frames.{Spot, Spots, Progress, base_of, edits_of}

-- so many groups are redone on the page of one key, and on others as before
abbrev pub raised : ℕ → ℕ → Progress → Progress
raised key count redone k = if nat_eq key k then count else redone k

-- Behind so many groups these records of the next one were gone through: it is redone on each page that they edit.
abbrev pub midway : List Logged → ℕ → List Record → Spots → Progress
midway groups count records place k = if is_some_edit (edits_of groups count records (place k)) then count + 1 else count

-- A group stands behind so many others, counts for the page of a key and edits it. It may be redone on that page already.
pub record EditsPage (place : Spots) (redone : Progress) (groups before after : List Logged) (g : Logged) (key : ℕ) (s : Spot) : Type 0 where
  pub whole : groups ≡ before ++ g ∷ after
  pub here : place key ≡ Some s
  pub counts : base_of s.name groups ≤ length before
  pub edits : touches s.name s.part s.page g.group ≡ true
  pub near : (redone key ≡ length before) ⊎ (redone key ≡ length before + 1)

-- A group of that number counts for a name of whose files this is told last: it stands behind the group that made them.
abbrev pub is_counted : Told → Lsn → Bool
is_counted Nothing at = true
is_counted Dropped at = false
is_counted (Made made) at = nat_lt (lsn_number made) (lsn_number at)
