use Rattle.std.proofs.Common.{◌≡◌, ℕ, true, false, take, List}
use Rattle.std.specs.Prelude.{IsTrue}
use Rattle.std.specs.List.{list_any}
use Rattle.aria_page.specs.declared.lsn.Lsn.{Lsn}
use Rattle.aria_page.specs.declared.place.Part.{Part}
use Rattle.aria_value.specs.Named.{same_name}
use Rattle.aria_host.specs.declared.file_name.FileName.{FileName}
use Rattle.aria_host.specs.Folder.{Folder}
use Rattle.aria_record.specs.Logged.{Logged}
use Rattle.aria_recovery.specs.Analysed.{Has}
use Rattle.aria_recovery.specs.Tables.{file}
use Rattle.aria_pager.specs.Found.{is_part}
use Rattle.aria_pager.specs.Prepared.{HasTables, HasFiles, Prepares, IsSettledName}
use Rattle.aria_pager.proofs.settle_names.settle_names.Given as goal

abbrev pub invariant-loop-name : goal.invariant-loop-name
invariant-loop-name g l = record {
  prepares : IsTrue g.H.Host.tells → (checkpoint : Lsn) (base : ℕ) (start : Folder) (groups : List Logged) → Has checkpoint l.analysis groups → HasTables l.log (g.H.Host.state l.fn.host) base start groups → HasFiles (g.H.Host.state l.fn.host)
      → Prepares l.log (g.H.Host.state l.fn.host) (g.H.Host.state l.host) base start groups;
  files : IsTrue g.H.Host.tells → HasFiles (g.H.Host.state l.fn.host) → HasFiles (g.H.Host.state l.host);
  settled : IsTrue g.H.Host.tells → (checkpoint : Lsn) (base : ℕ) (start : Folder) (groups : List Logged) → Has checkpoint l.analysis groups → HasTables l.log (g.H.Host.state l.fn.host) base start groups → HasFiles (g.H.Host.state l.fn.host)
      → (q : List ℕ) → list_any (same_name q) (take l.name-index l.names) ≡ true → IsSettledName q groups (g.H.Host.state l.host).folder;
  others : IsTrue g.H.Host.tells → (f : FileName) → is_part f ≡ false → (g.H.Host.state l.host).folder f ≡ (g.H.Host.state l.fn.host).folder f;
  kept : IsTrue g.H.Host.tells → (q : List ℕ) → list_any (same_name q) l.names ≡ false → (part : Part) → (g.H.Host.state l.host).folder (file q part) ≡ (g.H.Host.state l.fn.host).folder (file q part);
  disk : (g.H.Host.state l.host).disk_faults ≡ (g.H.Host.state l.fn.host).disk_faults;
  tell : (g.H.Host.state l.host).tell_faults ≡ (g.H.Host.state l.fn.host).tell_faults;
}
