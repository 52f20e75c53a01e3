-- What calls of a pager may do.
use Rattle.std.specs.Prelude.{◌≡◌, ℕ, List, ◌++◌}
use Rattle.aria_host.specs.Folder.{Folder}
use Rattle.aria_host.specs.State.{State}
use Rattle.aria_record.specs.Logged.{Logged}
use Rattle.aria_recovery.specs.Moves.{Moves}
use Rattle.aria_pager.specs.declared.page_store.PageStore.{PageStore}
use Rattle.aria_pager.specs.PageStore.{name_at, opened}
use Rattle.aria_pager.specs.Pager.{HasFront, Standing}

-- it stands, whatever its groups
abbrev pub Stands : PageStore → State → Type 0
Stands store s = (base : ℕ) × (start : Folder) × (groups : List Logged) × (forced : ℕ) × Standing store s base start groups forced

-- Where it stood for some groups, it stands for these now; at each moment a crash leaves a front of them.
pub record Gone (store store' : PageStore) (s s' : State) (base : ℕ) (start : Folder) (groups groups' : List Logged) (forced : ℕ) : Type 0 where
  pub forced' : ℕ
  pub standing : Standing store' s' base start groups' forced'
  pub moves : Moves (HasFront base) (opened store) s s' groups groups' forced forced'

-- exactly these groups ended
pub record Ends (store store' : PageStore) (s s' : State) (added : List Logged) : Type 0 where
  pub slots : name_at store' ≡ name_at store
  pub opens : opened store' ≡ opened store
  pub goes : (base : ℕ) (start : Folder) (groups : List Logged) (forced : ℕ) → Standing store s base start groups forced → Gone store store' s s' base start groups (groups ++ added) forced

-- no group ended
pub record Stays (store store' : PageStore) (s s' : State) : Type 0 where
  pub slots : name_at store' ≡ name_at store
  pub opens : opened store' ≡ opened store
  pub goes : (base : ℕ) (start : Folder) (groups : List Logged) (forced : ℕ) → Standing store s base start groups forced → Gone store store' s s' base start groups groups forced
