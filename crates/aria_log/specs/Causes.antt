-- The causes of the log's faults.
use Rattle.std.specs.Prelude.{◌≡◌, ◌⊎◌, ◌↔◌, ℕ, ◌*◌, ◌-◌, ◌^◌, ◌<◌, ◌≤◌, Result, IfErr, IsErrOf, OnOk}
use Rattle.aria_host.specs.declared.fault.Fault.{Fault}
use Rattle.aria_host.specs.declared.fault.Fault.TheVariants.{Disk, LogSpent}
use Rattle.aria_host.specs.Count.{Rose}
use Rattle.aria_host.specs.State.{State}

-- A group that ends behind this place is refused exactly where page 1023 of file 16777215 would be used, and then nothing
-- is done; the only other fault is the disk's, and comes where one was counted.
pub record HasAppendCause {T L H : Type 0} (end : ℕ) (log log' : L) (host host' : H) (old new : State) (result : Result T Fault) : Type 0 where
  pub only : IfErr result (λ fault. (fault ≡ Disk) ⊎ (fault ≡ LogSpent 16777215))
  pub spent : IsErrOf result (LogSpent 16777215) ↔ (8176 * (2 ^ 34 - 1) < end)
  pub still : IsErrOf result (LogSpent 16777215) → (log' ≡ log) × (host' ≡ host)
  pub counted : IsErrOf result Disk → Rose old.disk_faults new.disk_faults
  pub calm : OnOk result (new.disk_faults ≡ old.disk_faults)
  pub later : old.disk_faults ≤ new.disk_faults
  pub tell : new.tell_faults ≡ old.tell_faults
