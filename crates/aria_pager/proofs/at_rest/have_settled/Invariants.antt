use Rattle.std.proofs.Common.{◌≡◌, true, List, take}
use Rattle.std.specs.Prelude.{IsTrue}
use Rattle.std.specs.List.{list_all}
use Rattle.aria_page.specs.declared.lsn.Lsn.{Lsn}
use Rattle.aria_host.specs.Calls.{Unchanged}
use Rattle.aria_record.specs.Logged.{Logged}
use Rattle.aria_recovery.specs.Analysed.{Has}
use Rattle.aria_pager.specs.Resting.{has_settled}
use Rattle.aria_pager.proofs.at_rest.have_settled.Given as goal

abbrev pub invariant-loop-name : goal.invariant-loop-name
invariant-loop-name g l = record {
  settled : IsTrue g.H.Host.tells → (checkpoint : Lsn) (groups : List Logged) → Has checkpoint l.analysis groups → list_all (has_settled (g.H.Host.state l.fn.host).folder groups) (take l.name-index l.names) ≡ true;
  same : IsTrue g.H.Host.tells → Unchanged (g.H.Host.state l.fn.host) (g.H.Host.state l.host);
  disk : (g.H.Host.state l.host).disk_faults ≡ (g.H.Host.state l.fn.host).disk_faults;
  tell : (g.H.Host.state l.host).tell_faults ≡ (g.H.Host.state l.fn.host).tell_faults;
}
