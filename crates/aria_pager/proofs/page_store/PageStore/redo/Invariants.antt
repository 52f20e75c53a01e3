use Rattle.std.proofs.Common.{◌≡◌, ℕ, List}
use Rattle.std.specs.Prelude.{IsTrue}
use Rattle.aria_host.specs.Folder.{Folder}
use Rattle.aria_record.specs.Logged.{Logged}
use Rattle.aria_log.specs.Pieces.{log_files}
use Rattle.aria_log.specs.Reading.{IsReader}
use Rattle.aria_pager.specs.Steps.{SameWork}
use Rattle.aria_pager.specs.Turns.{KeepsAside}
use Rattle.aria_pager.specs.Redone.{BeginsRedo}
use Rattle.aria_pager.proofs.Walk.{IsWalked}
use Rattle.aria_pager.proofs.page_store.PageStore.redo.Given as goal

abbrev pub invariant-loop-nth : goal.invariant-loop-nth
invariant-loop-nth g l = record {
  walked : IsTrue g.H.Host.tells → (base : ℕ) (start : Folder) (groups : List Logged) (forced : ℕ) → BeginsRedo l.fn.self (g.H.Host.state l.fn.host) l.analysis l.fn.from base start groups forced
      → IsWalked l.fn.self l.self (g.H.Host.state l.fn.host) (g.H.Host.state l.host) l.at l._nth base start groups forced;
  reader : IsTrue g.H.Host.tells → IsReader l.reader (log_files (g.H.Host.state l.host).folder);
  same : SameWork l.fn.self l.self;
  aside : IsTrue g.H.Host.tells → KeepsAside (g.H.Host.state l.fn.host).folder (g.H.Host.state l.host).folder;
  disk : (g.H.Host.state l.host).disk_faults ≡ (g.H.Host.state l.fn.host).disk_faults;
  tell : (g.H.Host.state l.host).tell_faults ≡ (g.H.Host.state l.fn.host).tell_faults;
}
