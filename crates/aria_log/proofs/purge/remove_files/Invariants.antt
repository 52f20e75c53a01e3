use Rattle.std.proofs.Common.{◌≡◌, ◌-◌, ◌≤◌, ◌⊎◌, true, IsTrue, count_by}
use Rattle.aria_host.specs.declared.file_name.FileName.TheVariants.{Log}
use Rattle.aria_host.specs.Folder.{same_file}
use Rattle.aria_log.specs.Purge.{Purges}
use Rattle.aria_log.proofs.purge.remove_files.Given as goal

abbrev pub invariant-loop-number : goal.invariant-loop-number
invariant-loop-number g l = record {
  upto : l.number ≤ l.end;
  here : (l.number ≡ l.end) ⊎ (1 ≤ count_by (same_file (Log l.number)) l.names);
  purged : IsTrue g.H.Host.tells → Purges l.number (g.H.Host.state l.fn.host) (g.H.Host.state l.host) true;
  disk : (g.H.Host.state l.host).disk_faults ≡ (g.H.Host.state l.fn.host).disk_faults;
  tell : (g.H.Host.state l.host).tell_faults ≡ (g.H.Host.state l.fn.host).tell_faults;
}

abbrev pub decreases-loop-number : goal.decreases-loop-number
decreases-loop-number g l = l.end - l.number
