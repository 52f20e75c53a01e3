use Rattle.std.proofs.Common.{◌≡◌, ◌+◌, ◌≤◌, length, List, [], take}
use Rattle.std.specs.Prelude.{IsTrue}
use Rattle.aria_page.specs.declared.lsn.Lsn.{Lsn}
use Rattle.aria_host.specs.Calls.{Unchanged}
use Rattle.aria_record.specs.Logged.{Logged}
use Rattle.aria_record.specs.Writing.{records_of}
use Rattle.aria_recovery.specs.Analysed.{Has}
use Rattle.aria_pager.specs.Filing.{AreTidy, with_tables}
use Rattle.aria_pager.specs.Headers.{AreToldOf}
use Rattle.aria_pager.specs.Entered.{AreLow, IsEntering, HaveSlots}
use Rattle.aria_pager.proofs.page_store.PageStore.give_slots.Given as goal

abbrev pub invariant-loop-name : goal.invariant-loop-name
invariant-loop-name g l = record {
  enters : IsTrue g.H.Host.tells → (checkpoint : Lsn) (groups : List Logged) → Has checkpoint l.analysis groups → AreLow groups → records_of l.fn.self.writer ≡ [] → IsEntering l.fn.self (g.H.Host.state l.fn.host).folder groups
      → IsEntering l.self (g.H.Host.state l.fn.host).folder groups × HaveSlots l.self groups (take l.name-index l.names);
  told : (checkpoint : Lsn) (groups : List Logged) → Has checkpoint l.analysis groups → AreToldOf l.fn.self groups → AreToldOf l.self groups;
  tidy : AreTidy l.fn.self → AreTidy l.self;
  most : length l.self.slots ≤ length l.fn.self.slots + l.name-index;
  rest : l.self ≡ with_tables l.fn.self l.fn.self.frames l.self.slots l.self.tables;
  same : IsTrue g.H.Host.tells → Unchanged (g.H.Host.state l.fn.host) (g.H.Host.state l.host);
  disk : (g.H.Host.state l.host).disk_faults ≡ (g.H.Host.state l.fn.host).disk_faults;
  tell : (g.H.Host.state l.host).tell_faults ≡ (g.H.Host.state l.fn.host).tell_faults;
}
