-- A group of the log is read.
use Rattle.std.specs.Prelude.{◌≡◌, ◌⊎◌, ℕ, ◌≤◌, Bool, false, List, ◌∷◌, ◌++◌, Result, IfErr, IsErrOf, OnOk, alloc_error}
use Rattle.aria_page.specs.declared.lsn.Lsn.{Lsn}
use Rattle.aria_host.specs.Count.{Rose}
use Rattle.aria_host.specs.State.{State}
use Rattle.aria_host.specs.declared.fault.Fault.{Fault}
use Rattle.aria_host.specs.declared.fault.Fault.TheVariants.{Memory, Disk, LogDamaged}
use Rattle.aria_record.specs.Logged.{Logged, lsn_at_place}

-- the group is one of these, and has this log sequence number
pub record IsGroupAt (groups : List Logged) (at : Lsn) (g : Logged) : Type 0 where
  pub before : List Logged
  pub after : List Logged
  pub are : groups ≡ before ++ g ∷ after
  pub is : at ≡ lsn_at_place g.at

-- It is read, or memory is wanting, or the disk failed. The log is found to be damaged only where the host doesn't tell what
-- its files hold.
pub record HasGroupCause {T : Type 0} (tells : Bool) (old new : State) (result : Result T Fault) : Type 0 where
  pub only : IfErr result (λ fault. (fault ≡ Memory alloc_error) ⊎ ((fault ≡ Disk) ⊎ ((tells ≡ false) × (file : ℕ) × (page : ℕ) × (fault ≡ LogDamaged file page))))
  pub counted : IsErrOf result Disk → Rose old.disk_faults new.disk_faults
  pub calm : OnOk result (new.disk_faults ≡ old.disk_faults)
  pub later : old.disk_faults ≤ new.disk_faults
  pub tell : new.tell_faults ≡ old.tell_faults
