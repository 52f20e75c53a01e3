-- What a look at a folder finds.
use Rattle.std.specs.Prelude.{⊤, ◌≡◌, ◌*◌, ℕ, None, false, List}
use Rattle.aria_page.specs.declared.lsn.Lsn.{Lsn}
use Rattle.aria_host.specs.Folder.{Folder}
use Rattle.aria_host.specs.State.{State}
use Rattle.aria_record.specs.Logged.{Logged, lsn_at_place}
use Rattle.aria_log.specs.Files.{HoldsLog}
use Rattle.aria_log.specs.Pieces.{log_files}
use Rattle.aria_recovery.specs.Pending.{Chained}
use Rattle.aria_pager.specs.declared.look.Looked.{Looked}
use Rattle.aria_pager.specs.declared.look.Looked.TheVariants.{Fresh, Settled, Needs}
use Rattle.aria_pager.specs.View.{IsTidy}
use Rattle.aria_pager.specs.Found.{IsFresh, HasOwn}
use Rattle.aria_pager.specs.Resting.{IsAtRest, IsLooked}

-- a pager that was found keeps no fault, and no group is open
abbrev pub IsIdle : Looked → Type 0
IsIdle Fresh = ⊤
IsIdle (Settled store) = IsTidy store × (store.kept ≡ None) × (store.in_group ≡ false)
IsIdle (Needs end) = ⊤

-- Recovery is needed, and the log ends there; or redo changes nothing, and this is a pager over the folder as it is.
abbrev pub LooksAt : Folder → State → ℕ → List Logged → Looked → Type 0
LooksAt folder new base groups Fresh = ⊥
LooksAt folder new base groups (Settled store) = IsLooked store new base folder groups
LooksAt folder new base groups (Needs end) = (¬ IsAtRest folder groups) × (n : ℕ) × HoldsLog (log_files folder) base groups n × (end ≡ lsn_at_place (8176 * n))

-- the same of the folder's own log
pub record LooksAtOwn (folder : Folder) (new : State) (looked : Looked) : Type 0 where
  pub checkpoint : Lsn
  pub base : ℕ
  pub groups : List Logged
  pub own : HasOwn folder checkpoint base groups
  pub chained : Chained checkpoint groups
  pub looks : LooksAt folder new base groups looked

-- THE FOLDER WAS LOOKED AT: nothing was ever stored there, or its own log says what is needed.
abbrev pub IsLookedAt : State → State → Looked → Type 0
IsLookedAt old new Fresh = IsFresh old.folder
IsLookedAt old new (Settled store) = LooksAtOwn old.folder new (Settled store)
IsLookedAt old new (Needs end) = LooksAtOwn old.folder new (Needs end)
