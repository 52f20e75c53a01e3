-- The causes of the faults of pages.
use Rattle.std.specs.Prelude.{◌≡◌, ⊤, ℕ, ◌+◌, ◌*◌, ◌-◌, ◌^◌, ◌<◌, ◌≤◌, Bool, IsTrue, Option, None, IfSome}
use Rattle.aria_host.specs.declared.fault.Fault.{Fault}
use Rattle.aria_host.specs.declared.fault.Fault.TheVariants.{Memory, Disk, PageDamaged, LogDamaged, LogSpent}
use Rattle.aria_host.specs.declared.file_name.FileName.{FileName}
use Rattle.aria_host.specs.Count.{Rose}
use Rattle.aria_cache.specs.PageState.{PageState}

-- A page is brought into memory: the disk fails, or that page is damaged, or it is ahead of the log.
abbrev pub OfPage : Bool → Bool → FileName → ℕ → PageState → PageState → Fault → Type 0
OfPage tells logged file page old new (Memory e) = ⊤
OfPage tells logged file page old new Disk = Rose old.faults new.faults
OfPage tells logged file page old new (PageDamaged f n) = (f ≡ file) × (n ≡ page) × (IsTrue tells → old.bodies file page ≡ None)
OfPage tells logged file page old new (LogDamaged f n) = IsTrue logged × (IsTrue tells → IsTrue (old.late file page))
OfPage tells logged file page old new _ = ⊥

-- A group is put into the log: the disk fails, or the log has no room for so many bytes more.
abbrev pub OfLog : Bool → ℕ → PageState → PageState → Fault → Type 0
OfLog logged bytes old new (Memory e) = ⊤
OfLog logged bytes old new Disk = Rose old.faults new.faults
OfLog logged bytes old new (LogSpent file) = IsTrue logged × (8176 * (2 ^ 34 - 1) < 8176 * old.reach + bytes)
OfLog logged bytes old new _ = ⊥

-- Where no fault was kept, the one that is answered has a cause. Faults of the disk are counted, and come with no other answer.
pub record HasPagesCause (Cause : Fault → Type 0) (old new : PageState) (fault : Option Fault) : Type 0 where
  pub cause : old.kept ≡ None → IfSome fault Cause
  pub calm : fault ≡ None → new.faults ≡ old.faults
  pub later : old.faults ≤ new.faults

-- a fault that a caller of pages may find itself: want of memory, or damage
abbrev pub IsFound : Fault → Type 0
IsFound (Memory e) = ⊤
IsFound (PageDamaged file page) = ⊤
IsFound (LogDamaged file page) = ⊤
IsFound _ = ⊥
