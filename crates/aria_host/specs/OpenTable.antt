-- The table of the files that stay open.
use Rattle.std.specs.Prelude.{◌≡◌, ℕ, ◌<◌, Bool, true, false, Option, Some, None, List, slice_index_or}
use Rattle.aria_host.specs.declared.file_name.FileName.{FileName}
use Rattle.aria_host.specs.declared.real.os.Handle.{Handle}
use Rattle.aria_host.specs.Folder.{same_file}

-- the file of that name is open there
abbrev pub is_of : FileName → Option Handle → Bool
is_of name None = false
is_of name (Some handle) = same_file handle.name name

-- this is the place of the file of that name
abbrev pub IsPlace : FileName → ℕ → List (Option Handle) → Type 0
IsPlace name place handles = (place < 32) × (is_of name (slice_index_or handles place None) ≡ true)

-- the file isn't open at a place below this one
abbrev pub IsNotBelow : FileName → ℕ → List (Option Handle) → Type 0
IsNotBelow name most handles = (place : ℕ) → place < most → is_of name (slice_index_or handles place None) ≡ false

-- the file isn't open
abbrev pub IsClosed : FileName → List (Option Handle) → Type 0
IsClosed name handles = IsNotBelow name 32 handles
