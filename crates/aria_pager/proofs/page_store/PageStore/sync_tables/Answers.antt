use Rattle.std.proofs.Common.{◌∙◌, ◌≤◌, true, is_ok, length, List, subst}
use Rattle.aria_host.proofs.Moments.{narrows_then}
use Rattle.aria_pager.specs.declared.slot.Slot.{Slot}
use Rattle.aria_pager.proofs.Written.{narrow_step, synced_next, synced_all, slot_files, slot_here}
use Rattle.aria_pager.proofs.page_store.PageStore.sync_tables.Goals as goal

pub sync_slot-requires-clause-there : goal.sync_slot-requires-clause-there
sync_slot-requires-clause-there g c = λ told used.
    let p = c.requires.pager told in
    let here = slot_here c.args.self.now.slots c.as_slice-slot-items.result.now c.loop-slot.slot-index c.slot-item.result c.as_slice-slot-items.ensures c.loop-slot-test.true c.slot-item.is in
    slot_files c.args.self.now (g.H.Host.state c.args.host.now) (g.H.Host.state c.loop-slot.host) p.0 p.1 p.2 p.3 p.4 c.loop-slot.slot-index c.slot-item.result (c.loop-slot.invariant.narrows told) here used p.5

pub returns-in_err-sync_slot-clause-steps : goal.returns-in_err-sync_slot-clause-steps
returns-in_err-sync_slot-clause-steps g c = λ told redone base start groups forced is.
    let s = g.H.Host.state c.args.host.now in
    let m = g.H.Host.state c.loop-slot.host in
    let t = g.H.Host.state c.sync_slot.new.host in
    narrow_step c.args.self.now s t redone base start groups forced (is_ok c.from_residual.result) (λ f b left. g.met.H.Host.only_now c.args.host.now f b told left) (g.met.H.Host.reads_now c.sync_slot.new.host told)
    (narrows_then s m t (λ k f low left. g.met.H.Host.counts_now c.args.host.now k f told low left) (c.loop-slot.invariant.narrows told) (c.in_err-sync_slot.ensures.narrows told)) is

pub loop-slot-preserved : goal.loop-slot-preserved
loop-slot-preserved g c = record {
  narrows = λ told. narrows_then (g.H.Host.state c.args.host.now) (g.H.Host.state c.loop-slot.host) (g.H.Host.state c.sync_slot.new.host) (λ k f low left. g.met.H.Host.counts_now c.args.host.now k f told low left)
      (c.loop-slot.invariant.narrows told) (c.in_ok-sync_slot.ensures.narrows told);
  synced = λ told. synced_next c.args.self.now.slots (g.H.Host.state c.loop-slot.host) (g.H.Host.state c.sync_slot.new.host) c.loop-slot.slot-index c.slot-item.result (c.in_ok-sync_slot.ensures.narrows told)
      (slot_here c.args.self.now.slots c.as_slice-slot-items.result.now c.loop-slot.slot-index c.slot-item.result c.as_slice-slot-items.ensures c.loop-slot-test.true c.slot-item.is)
      (c.in_ok-sync_slot.ensures.durable told) (c.loop-slot.invariant.synced told);
  disk = c.in_ok-sync_slot.ensures.cause.calm ∙ c.loop-slot.invariant.disk;
  tell = c.in_ok-sync_slot.ensures.cause.tell ∙ c.loop-slot.invariant.tell;
}

pub returns-clause-steps : goal.returns-clause-steps
returns-clause-steps g c = λ told redone base start groups forced is.
    narrow_step c.args.self.now (g.H.Host.state c.args.host.now) (g.H.Host.state c.loop-slot.host) redone base start groups forced true (λ f b left. g.met.H.Host.only_now c.args.host.now f b told left) (g.met.H.Host.reads_now c.loop-slot.host told)
    (c.loop-slot.invariant.narrows told) is

pub returns-clause-durable : goal.returns-clause-durable
returns-clause-durable g c = λ told. synced_all c.args.self.now (g.H.Host.state c.loop-slot.host) c.loop-slot.slot-index (subst (λ (l : List Slot). length l ≤ c.loop-slot.slot-index) c.as_slice-slot-items.ensures c.loop-slot-test.false) (c.loop-slot.invariant.synced told)
