use Rattle.std.proofs.Common.{◌≡◌, ℕ, true, false, nat_eq, List, IsTrue, take}
use Rattle.std.specs.List.{list_any}
use Rattle.aria_host.specs.Folder.{Folder}
use Rattle.aria_record.specs.Logged.{Logged}
use Rattle.aria_log.specs.Log.{log_pages}
use Rattle.aria_cache.specs.Frames.{held}
use Rattle.aria_recovery.specs.Frames.{Progress, is_dirty}
use Rattle.aria_pager.specs.Pager.{IsPagerAt}
use Rattle.aria_pager.specs.Steps.{SameWork, StepsAt}
use Rattle.aria_pager.proofs.page_store.PageStore.write_pages.Given as goal

abbrev pub invariant-loop-key : goal.invariant-loop-key
invariant-loop-key g l = record {
  steps : IsTrue g.H.Host.tells → (redone : Progress) (base : ℕ) (start : Folder) (groups : List Logged) (forced : ℕ) → IsPagerAt l.fn.self (g.H.Host.state l.fn.host) redone base start groups forced
      → StepsAt l.fn.self l.self (g.H.Host.state l.fn.host) (g.H.Host.state l.host) redone base start groups forced true;
  pins : l.self.frames.pins ≡ l.fn.self.frames.pins;
  clean : (k : ℕ) → list_any (nat_eq k) (take l.key-index l.keys) ≡ true → is_dirty (held l.self.frames) k ≡ false;
  fewer : (k : ℕ) → is_dirty (held l.self.frames) k ≡ true → is_dirty (held l.fn.self.frames) k ≡ true;
  reach : log_pages l.self.log ≡ log_pages l.fn.self.log;
  same : SameWork l.fn.self l.self;
  disk : (g.H.Host.state l.host).disk_faults ≡ (g.H.Host.state l.fn.host).disk_faults;
  tell : (g.H.Host.state l.host).tell_faults ≡ (g.H.Host.state l.fn.host).tell_faults;
}
