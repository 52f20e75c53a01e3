use Rattle.std.proofs.Common.{◌≡◌, ℕ, List, []}
use Rattle.std.specs.Prelude.{IsTrue}
use Rattle.aria_host.specs.Calls.{Unchanged}
use Rattle.aria_record.specs.Logged.{lsn_at_place}
use Rattle.aria_log.specs.Pieces.{log_files}
use Rattle.aria_log.specs.Reading.{Entry, IsReader, StandsAt}
use Rattle.aria_pager.proofs.Analysing.{IsAnalysed}
use Rattle.aria_pager.proofs.analyse.analyse.Given as goal

abbrev pub invariant-loop-nth : goal.invariant-loop-nth
invariant-loop-nth g l = record {
  analysed : IsTrue g.H.Host.tells → (here : ℕ) (more : List Entry) → StandsAt l.log (log_files (g.H.Host.state l.fn.host).folder) here [] more → l.fn.from ≡ lsn_at_place here
      → IsAnalysed l.log l.at l._nth more l.fn.checkpoint l.analysis;
  reader : IsTrue g.H.Host.tells → IsReader l.reader (log_files (g.H.Host.state l.host).folder);
  same : IsTrue g.H.Host.tells → Unchanged (g.H.Host.state l.fn.host) (g.H.Host.state l.host);
  disk : (g.H.Host.state l.host).disk_faults ≡ (g.H.Host.state l.fn.host).disk_faults;
  tell : (g.H.Host.state l.host).tell_faults ≡ (g.H.Host.state l.fn.host).tell_faults;
}
