use Rattle.std.proofs.Common.{◌≡◌, ◌≤◌, ◌<◌, ◌/◌, ℕ, IsTrue}
use Rattle.aria_page.specs.Page.{zero_page}
use Rattle.aria_host.specs.Calls.{Unchanged}
use Rattle.aria_host.specs.Seen.{page_or_zero}
use Rattle.aria_log.specs.Pieces.{log_files}
use Rattle.aria_log.proofs.log.Log.is_blank.Given as goal

abbrev pub invariant-loop-at : goal.invariant-loop-at
invariant-loop-at g l = record {
  from : l.first ≤ l.at;
  same : IsTrue g.H.Host.tells → Unchanged (g.H.Host.state l.fn.host) (g.H.Host.state l.host);
  zeros : IsTrue g.H.Host.tells → (page : ℕ) → l.first ≤ page → page < l.at → page_or_zero page (log_files (g.H.Host.state l.fn.host).folder (l.self.number / 1024)) ≡ zero_page;
  disk : (g.H.Host.state l.host).disk_faults ≡ (g.H.Host.state l.fn.host).disk_faults;
  tell : (g.H.Host.state l.host).tell_faults ≡ (g.H.Host.state l.fn.host).tell_faults;
}
