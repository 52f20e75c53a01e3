-- What callers see of pages, while they are moved.
use Rattle.std.specs.Prelude.{◌≡◌, ℕ, IsTrue}
use Rattle.aria_host.specs.declared.file_name.FileName.{FileName}
use Rattle.aria_host.specs.Folder.{Folder}
use Rattle.aria_pager.specs.declared.page_store.PageStore.{PageStore}
use Rattle.aria_pager.specs.View.{page_bodies, page_late}

-- All pages show the bodies that they did, and none came to be behind the log's end.
pub record KeepsPages (store store' : PageStore) (d d' : Folder) : Type 0 where
  pub bodies : page_bodies store' d' ≡ page_bodies store d
  pub late : (f : FileName) (n : ℕ) → IsTrue (page_late store' d' f n) → IsTrue (page_late store d f n)
