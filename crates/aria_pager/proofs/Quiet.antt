-- While nothing is to be appended, the log and its files stay.
use Rattle.std.proofs.Common.{◌≡◌, ◌∙◌, ℕ, true, List, ap, refl}
use Rattle.aria_page.specs.declared.place.Part.{Part}
use Rattle.aria_page.specs.declared.place.Part.TheVariants.{Keys, Rows}
use Rattle.aria_host.specs.declared.file_name.FileName.{FileName}
use Rattle.aria_host.specs.Folder.{Folder, with_page}
use Rattle.aria_host.specs.State.{State}
use Rattle.aria_host.specs.Calls.{Writes}
use Rattle.aria_log.specs.Pieces.{log_files}
use Rattle.aria_recovery.specs.Tables.{file}
use Rattle.aria_pager.specs.declared.page_store.PageStore.{PageStore}
use Rattle.aria_pager.specs.Redone.{KeepsLog}

pub keeps_on : (a b c : PageStore) (d e f : Folder) → KeepsLog a b d e → KeepsLog b c e f → KeepsLog a c d f
keeps_on a b c d e f first second = record { log = second.log ∙ first.log; files = second.files ∙ first.files }

-- a page of a table's file is none of the log's
no_log_file : (name : List ℕ) (part : Part) (at : ℕ) (page : List ℕ) (d : Folder) → log_files (with_page (file name part) at page d) ≡ log_files d
no_log_file name Keys at page d = refl
no_log_file name Rows at page d = refl

-- a page of a table's file was written
pub keeps_write : (store store' : PageStore) (s t : State) (name : List ℕ) (part : Part) (f : FileName) (at : ℕ) (page : List ℕ) → f ≡ file name part → store'.log ≡ store.log → Writes f at page s t true → KeepsLog store store' s.folder t.folder
keeps_write store store' s t name part f at page is same wrote = record {
  log = same;
  files = ap log_files (wrote.whole refl ∙ ap (λ (f : FileName). with_page f at page s.folder) is) ∙ no_log_file name part at page s.folder;
}
