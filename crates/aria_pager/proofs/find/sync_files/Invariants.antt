use Rattle.std.proofs.Common.{◌≡◌, true, take}
use Rattle.std.specs.Prelude.{IsTrue}
use Rattle.std.specs.List.{list_any}
use Rattle.aria_host.specs.Calls.{Narrows}
use Rattle.aria_host.specs.declared.file_name.FileName.{FileName}
use Rattle.aria_host.specs.Folder.{same_file}
use Rattle.aria_pager.specs.Found.{is_part, IsDurable}
use Rattle.aria_pager.proofs.find.sync_files.Given as goal

abbrev pub invariant-loop-file : goal.invariant-loop-file
invariant-loop-file g l = record {
  same : IsTrue g.H.Host.tells → Narrows (g.H.Host.state l.fn.host) (g.H.Host.state l.host);
  synced : IsTrue g.H.Host.tells → (f : FileName) → is_part f ≡ true → list_any (same_file f) (take l.file-index l.files) ≡ true → IsDurable f (g.H.Host.state l.host);
  disk : (g.H.Host.state l.host).disk_faults ≡ (g.H.Host.state l.fn.host).disk_faults;
  tell : (g.H.Host.state l.host).tell_faults ≡ (g.H.Host.state l.fn.host).tell_faults;
}
