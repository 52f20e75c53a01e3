-- The causes of the faults of calls on the pages of one file.
use Rattle.std.specs.Prelude.{◌≡◌, ⊤, ℕ, Bool, false, IsTrue, None}
use Rattle.aria_page.specs.declared.place.Part.TheVariants.{Rows}
use Rattle.aria_host.specs.declared.fault.Fault.{Fault}
use Rattle.aria_host.specs.declared.fault.Fault.TheVariants.{Memory, Disk, PageDamaged, LogDamaged}
use Rattle.aria_host.specs.declared.file_name.FileName.{FileName}
use Rattle.aria_host.specs.Count.{Rose}
use Rattle.aria_host.specs.Folder.{same_file}
use Rattle.aria_cache.specs.PageState.{PageState, file_of}
use Rattle.aria_cache.specs.Calls.{FewerLate}
use Rattle.aria_block.specs.Pieces.{Pieces}
use Rattle.aria_block.specs.DataFile.{HoldsData}

-- the data file of a slot
abbrev pub rows_file : PageState → ℕ → FileName
rows_file s slot = file_of s slot Rows

-- The disk fails, or a page of the file is damaged, or ahead of the log.
abbrev pub OfFile : Bool → Bool → FileName → PageState → PageState → Fault → Type 0
OfFile tells logged file old new (Memory e) = ⊤
OfFile tells logged file old new Disk = Rose old.faults new.faults
OfFile tells logged file old new (PageDamaged f n) = (f ≡ file) × (IsTrue tells → old.bodies file n ≡ None)
OfFile tells logged file old new (LogDamaged f n) = IsTrue logged × (IsTrue tells → (m : ℕ) × IsTrue (old.late file m))
OfFile tells logged file old new _ = ⊥

-- No page of the file came to be damaged, or ahead of the log, and no other file has more pages or fewer.
pub record KeepsSound (tells : Bool) (file : FileName) (old new : PageState) : Type 0 where
  pub sound : IsTrue tells → (n : ℕ) → new.bodies file n ≡ None → old.bodies file n ≡ None
  pub late : IsTrue tells → FewerLate old new
  pub others : (f : FileName) → same_file file f ≡ false → new.counts f ≡ old.counts f

-- The same, or the pages don't hold a data file.
abbrev pub OfRows : Bool → Bool → FileName → PageState → PageState → Fault → Type 0
OfRows tells logged file old new (Memory e) = ⊤
OfRows tells logged file old new Disk = Rose old.faults new.faults
OfRows tells logged file old new (PageDamaged f n) = (f ≡ file) × (IsTrue tells → (pieces : Pieces) → HoldsData (old.counts file) (old.bodies file) pieces → ⊥)
OfRows tells logged file old new (LogDamaged f n) = IsTrue logged × (IsTrue tells → (m : ℕ) × IsTrue (old.late file m))
OfRows tells logged file old new _ = ⊥

-- If the pages held a data file before a call, they do after it.
pub record HoldsStill (tells : Bool) (file : FileName) (old new : PageState) : Type 0 where
  pub data_file : IsTrue tells → (pieces : Pieces) → HoldsData (old.counts file) (old.bodies file) pieces → (kept : Pieces) × HoldsData (new.counts file) (new.bodies file) kept
