-- What the header of an index file says of its table.
use Rattle.std.specs.Prelude.{◌≡◌, ℕ, ◌<◌, List, Some}
use Rattle.aria_host.specs.declared.file_name.FileName.{FileName}
use Rattle.aria_value.specs.declared.header.Header.{Header}
use Rattle.aria_value.specs.Header.{read_header}
use Rattle.aria_cache.specs.PageState.{PageState}

-- the first page of the file is there, and spells a header
pub record HasTable (s : PageState) (file : FileName) : Type 0 where
  pub low : 0 < s.counts file
  pub body : List ℕ
  pub there : s.bodies file 0 ≡ Some body
  pub said : Header
  pub spells : read_header body ≡ Some said
