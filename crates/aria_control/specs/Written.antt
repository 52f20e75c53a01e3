-- What writing the control file does to the folder.
use Rattle.std.specs.Prelude.{◌≡◌, ◌⊎◌, ℕ, Bool, IsTrue, IsSome, List}
use Rattle.aria_host.specs.Folder.{Folder, with_page}
use Rattle.aria_host.specs.Steps.{Follows}
use Rattle.aria_host.specs.State.{State}
use Rattle.aria_control.specs.declared.control.Control.{Control}
use Rattle.aria_control.specs.declared.found.Found.TheVariants.{Kept}
use Rattle.aria_control.specs.Found.{control_file, Finds}

-- The first page of the control file is as it was, or this one. All else is as it was.
abbrev pub MayPut : List ℕ → Folder → Folder → Type 0
MayPut page before after = (after ≡ before) ⊎ (after ≡ with_page control_file 0 page before)

-- a crash leaves what one before might have left, with the page put or not, and nothing more is told
pub record AtControl (page : List ℕ) (old : State) (c : Folder) (told : List ℕ) : Type 0 where
  pub image : (d : Folder) × old.may_leave d × MayPut page d c
  pub told_is : told ≡ old.out

-- The page is put on the control file and is on the disk where that is done, and else it is put or it isn't. A crash
-- that takes the file takes its name with it.
pub record Puts (page : List ℕ) (old new : State) (done : Bool) : Type 0 where
  pub whole : IsTrue done → new.folder ≡ with_page control_file 0 page old.folder
  pub either : MayPut page old.folder new.folder
  pub durable : IsTrue done → (c : Folder) → new.may_leave c → IsSome (c control_file) → c control_file ≡ new.folder control_file
  pub images : Follows (MayPut page) old new
  pub out : new.out ≡ old.out
  pub err : new.err ≡ old.err

-- the control is found, whatever a crash leaves that leaves the file
pub record Keeps (control : Control) (s : State) : Type 0 where
  pub now : Finds (Kept control) s.folder
  pub images : (c : Folder) → s.may_leave c → IsSome (c control_file) → Finds (Kept control) c

-- each image has the control file
abbrev pub IsNamed : State → Type 0
IsNamed s = (c : Folder) → s.may_leave c → IsSome (c control_file)
