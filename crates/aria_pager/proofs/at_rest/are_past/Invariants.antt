use Rattle.std.proofs.Common.{◌≡◌, ℕ, Some}
use Rattle.std.specs.Prelude.{IsTrue, slice_get}
use Rattle.std.specs.BTreeMap.{get}
use Rattle.std.specs.List.{list_all}
use Rattle.std.specs.Ordering.{nat_cmp}
use Rattle.aria_page.specs.declared.lsn.Lsn.{Lsn}
use Rattle.aria_host.specs.Calls.{Unchanged}
use Rattle.aria_host.specs.Folder.{page_count}
use Rattle.aria_recovery.specs.Tables.{file}
use Rattle.aria_pager.specs.Resting.{is_past}
use Rattle.aria_pager.proofs.at_rest.are_past.Given as goal

abbrev pub invariant-loop-page : goal.invariant-loop-page
invariant-loop-page g l = record {
  past : IsTrue g.H.Host.tells → list_all (is_past (g.H.Host.state l.fn.host).folder l.name l.part) l.page-iterator ≡ list_all (is_past (g.H.Host.state l.fn.host).folder l.name l.part) l.pages.entries;
  left : (i : ℕ) (e : ℕ × Lsn) → slice_get l.page-iterator i ≡ Some e → get nat_cmp l.pages e.0 ≡ Some e.1;
  written : IsTrue g.H.Host.tells → page_count (file l.name l.part) (g.H.Host.state l.host).folder ≡ l.written;
  same : IsTrue g.H.Host.tells → Unchanged (g.H.Host.state l.fn.host) (g.H.Host.state l.host);
  disk : (g.H.Host.state l.host).disk_faults ≡ (g.H.Host.state l.fn.host).disk_faults;
  tell : (g.H.Host.state l.host).tell_faults ≡ (g.H.Host.state l.fn.host).tell_faults;
}
