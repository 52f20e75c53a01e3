-- A host as contracts see it: the folder, what was told, and what a crash may leave.
use Rattle.std.specs.Prelude.{◌≡◌, ◌⊎◌, ℕ, ◌≤◌, List, ◌++◌, take}
pub use Rattle.aria_host.specs.Folder.{Folder}
use Rattle.aria_host.specs.declared.host.Stream.{Stream}
use Rattle.aria_host.specs.declared.host.Stream.TheVariants.{Out, Err}

-- what contracts know of a host
pub record State : Type 1 where
  -- the folder as it reads
  pub folder : Folder
  -- the folders that a crash now may leave: the images
  pub may_leave : Folder → Type 0
  -- the bytes told on standard output
  pub out : List ℕ
  -- the bytes told on standard error
  pub err : List ℕ
  -- a clock that doesn't go back
  pub moment : ℕ
  -- what a crash at some moment since that clock value might have left, with the bytes told on standard output by then
  pub since : ℕ → Folder → List ℕ → Type 0
  -- how often the disk has failed, up to 2^64 - 1
  pub disk_faults : ℕ
  -- how often a stream has failed, up to 2^64 - 1
  pub tell_faults : ℕ

-- the bytes told on a stream
abbrev pub told : Stream → State → List ℕ
told Out s = s.out
told Err s = s.err

-- Time goes on while these bytes are told on standard output: a crash might have left what it might have left before,
-- or it leaves what it may leave now, with a part of the bytes told.
pub record Elapses (old new : State) (added : List ℕ) : Type 0 where
  pub later : old.moment ≤ new.moment
  pub nothing_else : (t : ℕ) (c : Folder) (b : List ℕ) → t ≤ old.moment → new.since t c b
      → old.since t c b ⊎ (new.may_leave c × (n : ℕ) × (b ≡ old.out ++ take n added))
  pub keeps : (t : ℕ) (c : Folder) (b : List ℕ) → t ≤ old.moment → old.since t c b → new.since t c b

-- A crash at any moment since old leaves a folder, with the bytes told by then, that has P.
pub record LeavesOnly (old new : State) (P : Folder → List ℕ → Type 0) : Type 0 where
  pub later : old.moment ≤ new.moment
  pub each : (c : Folder) (b : List ℕ) → new.since old.moment c b → P c b
  -- for a run that began earlier
  pub before : (t : ℕ) (c : Folder) (b : List ℕ) → t ≤ old.moment → new.since t c b → old.since t c b ⊎ P c b
