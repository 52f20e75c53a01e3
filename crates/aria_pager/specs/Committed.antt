-- What COMMIT leaves, and calls that bring all to the disk.
use Rattle.std.specs.Prelude.{◌≡◌, ◌⊎◌, ℕ, ◌*◌, ◌-◌, ◌^◌, ◌<◌, ◌≤◌, Bool, List, length, IsTrue, Result, IfErr, IsErrOf, OnOk}
use Rattle.std.specs.Global.{Vec}
use Rattle.aria_page.specs.declared.lsn.Lsn.{Lsn}
use Rattle.aria_host.specs.Count.{Rose}
use Rattle.aria_host.specs.Folder.{Folder}
use Rattle.aria_host.specs.State.{State}
use Rattle.aria_host.specs.declared.fault.Fault.{Fault}
use Rattle.aria_host.specs.declared.fault.Fault.TheVariants.{Disk, LogSpent}
use Rattle.aria_record.specs.Logged.{Logged}
use Rattle.aria_log.specs.declared.log.Log.{Log as LogValue}
use Rattle.aria_recovery.specs.Moves.{Moves}
use Rattle.aria_pager.specs.declared.page_store.PageStore.{PageStore}
use Rattle.aria_pager.specs.PageStore.{opened}
use Rattle.aria_pager.specs.Pager.{HasFront, HaveFronts}
use Rattle.aria_pager.specs.Goes.{Gone}
use Rattle.aria_pager.specs.Steps.{with_start}
use Rattle.aria_pager.specs.Turns.{with_commit}

-- the same with another log, which is started or isn't, and other pending undo records
abbrev pub with_committed : PageStore → Bool → LogValue → Vec Lsn → PageStore
with_committed store started log pending = with_commit (with_start store started log) log pending

-- A group that ends behind this place is put into the log, or it isn't for one of these causes: the log has no room for it,
-- or the disk failed. Faults of the disk are counted, and come with no other answer.
pub record HasLogCause {T : Type 0} (end : ℕ) (old new : State) (result : Result T Fault) : Type 0 where
  pub only : IfErr result (λ fault. (fault ≡ Disk) ⊎ (fault ≡ LogSpent 16777215))
  pub spent : IsErrOf result (LogSpent 16777215) → 8176 * (2 ^ 34 - 1) < end
  pub room : OnOk result (end ≤ 8176 * (2 ^ 34 - 1))
  pub counted : IsErrOf result Disk → Rose old.disk_faults new.disk_faults
  pub calm : OnOk result (new.disk_faults ≡ old.disk_faults)
  pub later : old.disk_faults ≤ new.disk_faults
  pub tell : new.tell_faults ≡ old.tell_faults

-- All groups are on the disk: a crash from here on leaves each of them.
pub record Forced (store store' : PageStore) (s s' : State) (base : ℕ) (start : Folder) (groups : List Logged) (forced : ℕ) : Type 0 where
  pub gone : Gone store store' s s' base start groups groups forced
  pub all : gone.forced' ≡ length groups

-- A pager was closed: no group was added, and all are on the disk where that is done.
pub record Closes (store : PageStore) (s s' : State) (base : ℕ) (groups : List Logged) (forced : ℕ) (done : Bool) : Type 0 where
  pub forced' : ℕ
  pub moves : Moves (HasFront base) (opened store) s s' groups groups forced forced'
  pub fronts : HaveFronts base s' groups forced'
  pub all : IsTrue done → forced' ≡ length groups
