-- The open group, and how it ends.
use Rattle.std.specs.Prelude.{◌≡◌, ⊤, ℕ, ◌*◌, ◌-◌, ◌^◌, ◌<◌, ◌≤◌, Bool, true, List, Result, IfErr, OnOk}
use Rattle.std.specs.Option.{option_map}
use Rattle.std.specs.Global.{Vec}
use Rattle.std.specs.List.{AllByRecursion}
use Rattle.aria_page.specs.declared.lsn.Lsn.{Lsn}
use Rattle.aria_host.specs.Count.{Rose}
use Rattle.aria_host.specs.declared.fault.Fault.{Fault}
use Rattle.aria_host.specs.declared.fault.Fault.TheVariants.{Memory, Disk, LogSpent}
use Rattle.aria_host.specs.State.{State}
use Rattle.aria_log.specs.declared.log.Log.{Log as LogValue}
use Rattle.aria_cache.specs.declared.frames.Frames.{Frames}
use Rattle.aria_cache.specs.Frames.{held}
use Rattle.aria_record.specs.declared.group_writer.GroupWriter.{GroupWriter}
use Rattle.aria_record.specs.declared.record.Record.{Record}
use Rattle.aria_record.specs.Groups.{is_redo}
use Rattle.aria_pager.specs.declared.page_store.PageStore.{PageStore}

-- the records are edits of pages alone
abbrev pub AreEdits : List Record → Type 0
AreEdits records = AllByRecursion (λ r. is_redo r ≡ true) records

-- the frames hold pages of the same bodies
abbrev pub SameBodies : Frames → Frames → Type 0
SameBodies frames frames' = (k : ℕ) → option_map (λ h. h.body) (held frames' k) ≡ option_map (λ h. h.body) (held frames k)

-- the same with another open group, and with room for what is pending
abbrev pub with_last : PageStore → GroupWriter → Vec Lsn → PageStore
with_last store writer pending = record {
  log = store.log;
  started = store.started;
  frames = store.frames;
  writer = writer;
  in_group = store.in_group;
  made = store.made;
  slots = store.slots;
  tables = store.tables;
  pending = pending;
  lent = store.lent;
  kept = store.kept;
  blank = store.blank;
}

-- the same once the open group was ended
abbrev pub with_ended : PageStore → LogValue → Bool → Frames → GroupWriter → Vec Lsn → PageStore
with_ended store log started frames writer pending = record {
  log = log;
  started = started;
  frames = frames;
  writer = writer;
  in_group = store.in_group;
  made = store.made;
  slots = store.slots;
  tables = store.tables;
  pending = pending;
  lent = store.lent;
  kept = store.kept;
  blank = store.blank;
}

-- Why a group can't be ended: memory is wanting, the disk failed, or the log has no room for a group that ends before this place.
abbrev pub OfEnd : ℕ → State → State → Fault → Type 0
OfEnd most old new (Memory e) = ⊤
OfEnd most old new Disk = Rose old.disk_faults new.disk_faults
OfEnd most old new (LogSpent file) = 8176 * (2 ^ 34 - 1) < most
OfEnd most old new _ = ⊥

-- A group was ended, or it wasn't for one of these causes. Faults of the disk are counted, and come with no other answer.
pub record HasEndCause {T : Type 0} (most : ℕ) (old new : State) (result : Result T Fault) : Type 0 where
  pub only : IfErr result (OfEnd most old new)
  pub calm : OnOk result (new.disk_faults ≡ old.disk_faults)
  pub later : old.disk_faults ≤ new.disk_faults
  pub tell : new.tell_faults ≡ old.tell_faults
