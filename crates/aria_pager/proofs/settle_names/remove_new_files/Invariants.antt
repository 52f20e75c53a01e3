use Rattle.std.proofs.Common.{◌≡◌, ◌&&◌, ℕ, true, false, take, List, None}
use Rattle.std.specs.Prelude.{IsTrue}
use Rattle.std.specs.List.{list_any}
use Rattle.aria_host.specs.declared.file_name.FileName.{FileName}
use Rattle.aria_host.specs.Folder.{Folder, same_file}
use Rattle.aria_record.specs.Logged.{Logged}
use Rattle.aria_log.specs.declared.log.Log.{Log as LogValue}
use Rattle.aria_pager.specs.Prepared.{HasTables, HasFiles, Prepares}
use Rattle.aria_pager.specs.Turns.{is_aside}
use Rattle.aria_pager.proofs.settle_names.remove_new_files.Given as goal

abbrev pub invariant-loop-file : goal.invariant-loop-file
invariant-loop-file g l = record {
  prepares : IsTrue g.H.Host.tells → (log : LogValue) (base : ℕ) (start : Folder) (groups : List Logged) → HasTables log (g.H.Host.state l.fn.host) base start groups → Prepares log (g.H.Host.state l.fn.host) (g.H.Host.state l.host) base start groups;
  kept : IsTrue g.H.Host.tells → HasFiles (g.H.Host.state l.fn.host) → HasFiles (g.H.Host.state l.host);
  gone : IsTrue g.H.Host.tells → (f : FileName) → is_aside f ≡ true → list_any (same_file f) (take l.file-index l.files) ≡ true → (g.H.Host.state l.host).folder f ≡ None;
  others : IsTrue g.H.Host.tells → (f : FileName) → (is_aside f && list_any (same_file f) l.files) ≡ false → (g.H.Host.state l.host).folder f ≡ (g.H.Host.state l.fn.host).folder f;
  disk : (g.H.Host.state l.host).disk_faults ≡ (g.H.Host.state l.fn.host).disk_faults;
  tell : (g.H.Host.state l.host).tell_faults ≡ (g.H.Host.state l.fn.host).tell_faults;
}
