-- What is told by calls that change nothing, and the causes of their faults.
use Rattle.std.specs.Prelude.{◌≡◌, ⊤, ℕ, ◌≤◌, Bool, false, IsTrue, List, ◌++◌, take, Result, IfErr, IsErrOf, OnOk}
use Rattle.aria_host.specs.declared.fault.Fault.{Fault}
use Rattle.aria_host.specs.declared.fault.Fault.TheVariants.{Memory, Disk, Tell, LogDamaged}
use Rattle.aria_host.specs.Count.{Rose}
use Rattle.aria_host.specs.State.{Folder, State, LeavesOnly}

-- a crash leaves what one before might have left, and by then a front of the text was told
abbrev pub AtFront : State → List ℕ → Folder → List ℕ → Type 0
AtFront old text c told = old.may_leave c × (n : ℕ) × (told ≡ old.out ++ take n text)

-- A text is told on standard output: all of it where that is done, and else a front of it. Nothing else changes.
pub record Shows (text : List ℕ) (old new : State) (done : Bool) : Type 0 where
  pub whole : IsTrue done → new.out ≡ old.out ++ text
  pub part : (n : ℕ) × (new.out ≡ old.out ++ take n text)
  pub err : new.err ≡ old.err
  pub folder : new.folder ≡ old.folder
  pub images : (c : Folder) → new.may_leave c → old.may_leave c
  pub moments : LeavesOnly old new (AtFront old text)

-- The faults that come while the log is read and told. A page that isn't valid comes only where the host doesn't tell
-- what its files hold.
abbrev pub IsReadFault : Bool → Fault → Type 0
IsReadFault tells (Memory error) = ⊤
IsReadFault tells Disk = ⊤
IsReadFault tells Tell = ⊤
IsReadFault tells (LogDamaged file page) = tells ≡ false
IsReadFault tells _ = ⊥

-- No other fault is answered, and that of the disk or of the output only where one was counted; at Ok none was.
pub record HasCause {T : Type 0} (IsFault : Fault → Type 0) (old new : State) (result : Result T Fault) : Type 0 where
  pub only : IfErr result IsFault
  pub disk : IsErrOf result Disk → Rose old.disk_faults new.disk_faults
  pub tell : IsErrOf result Tell → Rose old.tell_faults new.tell_faults
  pub calm : OnOk result (new.disk_faults ≡ old.disk_faults)
  pub calm_too : OnOk result (new.tell_faults ≡ old.tell_faults)
  pub later : old.disk_faults ≤ new.disk_faults
  pub later_too : old.tell_faults ≤ new.tell_faults
