-- That a fault of the host in memory has its cause.
use Rattle.std.proofs.Common.{◌≡◌, ℕ, ◌+◌, ◌-◌, ◌^◌, ◌≤◌, min, Err, inl, sym, ◌∙◌, ap, arith}
use Rattle.aria_host.specs.declared.fault.Fault.{Fault}
use Rattle.aria_host.specs.declared.fault.Fault.TheVariants.{Disk}
use Rattle.aria_host.specs.declared.memory.mem_host.MemHost.{MemHost}
use Rattle.aria_host.specs.Calls.{HasDiskCause, HasDiskOrMemoryCause}
use Rattle.aria_host.specs.MemHost.{mem_state, SameFaults}

-- a fault of the disk that is counted has its cause
pub disk_cause : {T : Type 0} (old mid new : MemHost) (fault : Fault) → SameFaults old mid → fault ≡ Disk → new.disk_faults ≡ min (mid.disk_faults + 1) (2 ^ 64 - 1)
    → mid.disk_faults ≤ new.disk_faults → new.tell_faults ≡ mid.tell_faults → HasDiskCause {T = T} (mem_state old) (mem_state new) (Err fault)
disk_cause old mid new fault same is counted later told =
    let rose : min (old.disk_faults + 1) (2 ^ 64 - 1) ≡ new.disk_faults = ap (λ (k : ℕ). min (k + 1) (2 ^ 64 - 1)) (sym same.disk) ∙ sym counted in
    record {
      only = is;
      counted = λ _. omega (arith, rose);
      calm = tt;
      later = omega (arith, same.disk, later);
      tell = told ∙ same.tell;
    }

-- the same, where there may also be want of memory
pub disk_or_memory : {T : Type 0} (old mid new : MemHost) (fault : Fault) → SameFaults old mid → fault ≡ Disk → new.disk_faults ≡ min (mid.disk_faults + 1) (2 ^ 64 - 1)
    → mid.disk_faults ≤ new.disk_faults → new.tell_faults ≡ mid.tell_faults → HasDiskOrMemoryCause {T = T} (mem_state old) (mem_state new) (Err fault)
disk_or_memory {T = T} old mid new fault same is counted later told =
    let cause = disk_cause {T = T} old mid new fault same is counted later told in
    record { only = inl is; counted = cause.counted; calm = tt; later = cause.later; tell = cause.tell }
