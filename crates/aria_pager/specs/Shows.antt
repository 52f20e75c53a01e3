-- What callers see of a page that is edited, or that can't be held.
use Rattle.std.specs.Prelude.{◌≡◌, ⊤, ℕ, ◌≤◌, Bool, IsTrue, None, Result, IfErr, OnOk, List}
use Rattle.aria_page.specs.declared.edit.Edit.{Edit}
use Rattle.aria_host.specs.Count.{Rose}
use Rattle.aria_host.specs.declared.fault.Fault.{Fault}
use Rattle.aria_host.specs.declared.fault.Fault.TheVariants.{Memory, Disk, PageDamaged, LogDamaged}
use Rattle.aria_host.specs.declared.file_name.FileName.{FileName}
use Rattle.aria_host.specs.Folder.{Folder}
use Rattle.aria_host.specs.State.{State}
use Rattle.aria_cache.specs.PageState.{with_edits}
use Rattle.aria_pager.specs.declared.page_store.PageStore.{PageStore}
use Rattle.aria_pager.specs.View.{page_bodies, page_late}

-- One page has these edits on top, all others show what they did, and none came to be behind the log's end.
pub record ShowsEdits (file : FileName) (page : ℕ) (edits : List Edit) (store store' : PageStore) (d d' : Folder) : Type 0 where
  pub bodies : page_bodies store' d' ≡ with_edits file page edits (page_bodies store d)
  pub late : (f : FileName) (n : ℕ) → IsTrue (page_late store' d' f n) → IsTrue (page_late store d f n)

-- Why a page of a file can't be held: memory is wanting; the disk failed; it isn't sound; or it is behind the log's end.
abbrev pub OfLook : Bool → FileName → ℕ → PageStore → State → State → Fault → Type 0
OfLook tells file page store old new (Memory e) = ⊤
OfLook tells file page store old new Disk = Rose old.disk_faults new.disk_faults
OfLook tells file page store old new (PageDamaged f n) = (f ≡ file) × (n ≡ page) × (IsTrue tells → page_bodies store old.folder file page ≡ None)
OfLook tells file page store old new (LogDamaged f n) = IsTrue tells → IsTrue (page_late store old.folder file page)
OfLook tells file page store old new _ = ⊥

-- A page is held, or it isn't for one of these causes. Faults of the disk are counted, and come with no other answer.
pub record HasLookCause {T : Type 0} (tells : Bool) (file : FileName) (page : ℕ) (store : PageStore) (old new : State) (result : Result T Fault) : Type 0 where
  pub only : IfErr result (OfLook tells file page store old new)
  pub calm : OnOk result (new.disk_faults ≡ old.disk_faults)
  pub later : old.disk_faults ≤ new.disk_faults
  pub tell : new.tell_faults ≡ old.tell_faults
