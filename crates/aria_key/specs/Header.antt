-- The header page of an index file.
use Rattle.std.specs.Prelude.{◌≡◌, ◌==◌, ◌&&◌, ℕ, ◌<◌, false, List, Some}
use Rattle.aria_host.specs.declared.file_name.FileName.{FileName}
use Rattle.aria_host.specs.Folder.{same_file}
use Rattle.aria_cache.specs.PageState.{PageState, Bodies}
use Rattle.aria_key.specs.IndexFile.{with_root, with_free}

-- the file has a header page
pub record HasHeader (s : PageState) (file : FileName) : Type 0 where
  pub low : 0 < s.counts file
  pub header : List ℕ
  pub there : s.bodies file 0 ≡ Some header

-- the header has another root and another first free page, and no other page was changed
pub record SetsHeader (file : FileName) (key root free : ℕ) (header : List ℕ) (old new : Bodies) : Type 0 where
  pub here : new file 0 ≡ Some (with_root key root (with_free free header))
  pub other : (f : FileName) (n : ℕ) → (same_file file f && (0 == n)) ≡ false → new f n ≡ old f n
