-- What a run of calls leaves at each moment where it touches some files alone.
use Rattle.std.specs.Prelude.{◌≡◌, ℕ, Bool, false, List}
use Rattle.aria_host.specs.declared.file_name.FileName.{FileName}
use Rattle.aria_host.specs.State.{Folder, State, LeavesOnly}

-- all files but these are as they were
abbrev pub SameBut : (FileName → Bool) → Folder → Folder → Type 0
SameBut mine old new = (f : FileName) → mine f ≡ false → new f ≡ old f

-- Files other than these are left alone, in each image too, and nothing is told.
pub record LeavesOthers (mine : FileName → Bool) (old new : State) : Type 0 where
  pub folder : SameBut mine old.folder new.folder
  pub images : (c : Folder) → new.may_leave c → (d : Folder) × old.may_leave d × SameBut mine d c
  pub out : new.out ≡ old.out
  pub err : new.err ≡ old.err

-- A crash leaves a folder with P, its other files as a crash before might have left them.
pub record Left (mine : FileName → Bool) (old : State) (P : Folder → Type 0) (c : Folder) (told : List ℕ) : Type 0 where
  pub has : P c
  pub others : (d : Folder) × old.may_leave d × SameBut mine d c
  pub told_is : told ≡ old.out

-- A crash at any moment leaves a folder with P, and other files are left alone.
pub record Moments (mine : FileName → Bool) (old new : State) (P : Folder → Type 0) : Type 0 where
  pub moments : LeavesOnly old new (Left mine old P)
  pub others : LeavesOthers mine old new
