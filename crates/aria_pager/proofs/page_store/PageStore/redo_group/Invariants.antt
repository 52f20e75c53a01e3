use Rattle.std.proofs.Common.{◌≡◌, ℕ, true, List, length, take}
use Rattle.std.specs.Prelude.{IsTrue}
use Rattle.aria_host.specs.Folder.{Folder}
use Rattle.aria_record.specs.Logged.{Logged}
use Rattle.aria_recovery.specs.Midway.{midway}
use Rattle.aria_pager.specs.PageStore.{spot_of}
use Rattle.aria_pager.specs.Steps.{SameWork}
use Rattle.aria_pager.specs.Turns.{KeepsAside}
use Rattle.aria_pager.specs.Redone.{IsAtGroup, IsRedoing, Redoes}
use Rattle.aria_pager.proofs.page_store.PageStore.redo_group.Given as goal

abbrev pub invariant-loop-entry : goal.invariant-loop-entry
invariant-loop-entry g l = record {
  redoes : IsTrue g.H.Host.tells → (base : ℕ) (start : Folder) (groups : List Logged) (forced : ℕ) (before after : List Logged) (place : ℕ) → IsAtGroup l.analysis l.lsn l.group groups before after place
      → IsRedoing l.fn.self (g.H.Host.state l.fn.host) (λ k. length before) base start groups forced
      → Redoes l.fn.self l.self (g.H.Host.state l.fn.host) (g.H.Host.state l.host) (midway groups (length before) (take l.entry-index l.group) (spot_of l.fn.self)) base start groups forced true;
  same : SameWork l.fn.self l.self;
  aside : IsTrue g.H.Host.tells → KeepsAside (g.H.Host.state l.fn.host).folder (g.H.Host.state l.host).folder;
  disk : (g.H.Host.state l.host).disk_faults ≡ (g.H.Host.state l.fn.host).disk_faults;
  tell : (g.H.Host.state l.host).tell_faults ≡ (g.H.Host.state l.fn.host).tell_faults;
}
