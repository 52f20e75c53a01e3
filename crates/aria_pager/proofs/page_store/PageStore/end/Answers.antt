use Rattle.std.proofs.Common.{◌∙◌, true, false, reverse, ap, refl}
use Rattle.aria_recovery.specs.Frames.{all_of}
use Rattle.aria_page.specs.declared.lsn.Lsn.{Lsn}
use Rattle.aria_cache.specs.Ending.{pending_after}
use Rattle.aria_pager.specs.declared.page_store.PageStore.{PageStore}
use Rattle.aria_pager.specs.PageStore.{opened}
use Rattle.aria_pager.proofs.Editing.{on_err}
use Rattle.aria_pager.proofs.Stepping.{fault_on, steps_on}
use Rattle.aria_pager.proofs.Lasting.{Lasts, group_now, quiet_now, writes_now, pager_now, steps_lasted, turns_ended}
use Rattle.aria_pager.proofs.page_store.PageStore.end.Goals as goal

pub returns-in_err-push_last-clause-failed : goal.returns-in_err-push_last-clause-failed
returns-in_err-push_last-clause-failed g c = λ told. on_err c.from_residual-in_err-push_last.result (λ base start groups forced is.
    fault_on c.args.self.now c.start.new.self c.push_last.new.self (g.H.Host.state c.args.host.now) (g.H.Host.state c.start.new.host) (all_of groups) base start groups forced true false refl (c.in_ok-start.ensures.steps told base start groups forced is))

pub append-requires-clause-pager : goal.append-requires-clause-pager
append-requires-clause-pager g c = λ told.
    let p = c.requires.pager told in
    let st = c.in_ok-start.ensures.steps told p.0 p.1 p.2 p.3 p.4 in (
      p.0,
      p.1,
      p.2,
      st.forced',
      pager_now c.args.self.now c.start.new.self c.push_last.new.self c.args.slot _ c.args.last.now
          record { start = c.in_ok-start.ensures.rest; rest = c.in_ok-push_last.ensures.rest; pending = c.in_ok-push_last.ensures.pending; entry = c.in_ok-push_last.ensures.entry; writing = c.requires.writing; edits = c.requires.edits; slot_open = c.requires.open }
          (g.H.Host.state c.start.new.host) p.0 p.1 p.2 st.forced' (st.pager refl),
    )

pub append-requires-clause-writing : goal.append-requires-clause-writing
append-requires-clause-writing g c = writes_now c.args.self.now c.start.new.self c.push_last.new.self c.args.slot _ c.args.last.now
    record { start = c.in_ok-start.ensures.rest; rest = c.in_ok-push_last.ensures.rest; pending = c.in_ok-push_last.ensures.pending; entry = c.in_ok-push_last.ensures.entry; writing = c.requires.writing; edits = c.requires.edits; slot_open = c.requires.open }

pub append-requires-clause-group : goal.append-requires-clause-group
append-requires-clause-group g c = group_now c.args.self.now c.start.new.self c.push_last.new.self c.args.slot _ c.args.last.now
    record { start = c.in_ok-start.ensures.rest; rest = c.in_ok-push_last.ensures.rest; pending = c.in_ok-push_last.ensures.pending; entry = c.in_ok-push_last.ensures.entry; writing = c.requires.writing; edits = c.requires.edits; slot_open = c.requires.open }

pub append-requires-clause-quiet : goal.append-requires-clause-quiet
append-requires-clause-quiet g c = quiet_now c.args.self.now c.start.new.self c.push_last.new.self c.args.slot _ c.args.last.now
    record { start = c.in_ok-start.ensures.rest; rest = c.in_ok-push_last.ensures.rest; pending = c.in_ok-push_last.ensures.pending; entry = c.in_ok-push_last.ensures.entry; writing = c.requires.writing; edits = c.requires.edits; slot_open = c.requires.open }

pub returns-in_err-lsn-clause-failed : goal.returns-in_err-lsn-clause-failed
returns-in_err-lsn-clause-failed g c = λ told. on_err c.from_residual-in_err-lsn.result (λ base start groups forced is.
    let s = g.H.Host.state c.args.host.now in
    let t = g.H.Host.state c.start.new.host in
    let u = g.H.Host.state c.append.new.host in
    let st = steps_lasted c.args.self.now c.start.new.self c.push_last.new.self c.args.slot _ c.args.last.now
    record { start = c.in_ok-start.ensures.rest; rest = c.in_ok-push_last.ensures.rest; pending = c.in_ok-push_last.ensures.pending; entry = c.in_ok-push_last.ensures.entry; writing = c.requires.writing; edits = c.requires.edits; slot_open = c.requires.open }
    s t base start groups forced (c.in_ok-start.ensures.steps told base start groups forced is) in
    steps_on c.args.self.now c.push_last.new.self c.append.new.self s t u (all_of groups) base start groups forced false (ap (λ (v : PageStore). opened v) c.in_ok-push_last.ensures.rest ∙ ap (λ (v : PageStore). opened v) c.in_ok-start.ensures.rest) st
    (c.in_err-lsn.ensures.failed told base start groups st.forced' (st.pager refl)))

pub returns-clause-ended : goal.returns-clause-ended
returns-clause-ended g c = λ told base start groups forced is name named.
    let s = g.H.Host.state c.args.host.now in
    let t = g.H.Host.state c.start.new.host in
    let u = g.H.Host.state c.append.new.host in
    let lasts : Lasts c.args.self.now c.start.new.self c.push_last.new.self c.args.slot _ c.args.last.now =
    record { start = c.in_ok-start.ensures.rest; rest = c.in_ok-push_last.ensures.rest; pending = c.in_ok-push_last.ensures.pending; entry = c.in_ok-push_last.ensures.entry; writing = c.requires.writing; edits = c.requires.edits; slot_open = c.requires.open } in
    let st = c.in_ok-start.ensures.steps told base start groups forced is in
    let mid = pager_now c.args.self.now c.start.new.self c.push_last.new.self c.args.slot _ c.args.last.now lasts t base start groups st.forced' (st.pager refl) in
    turns_ended c.args.self.now c.start.new.self c.push_last.new.self c.args.slot _ c.args.last.now lasts c.append.new.self c.pend.new.self s t u base start groups forced name named c.in_ok-start.ensures.place st
    c.in_ok-lsn.ensures.rest c.pend.ensures.rest (c.pend.ensures.pending ∙ ap (λ (l : Lsn). pending_after l c.args.last.now (reverse c.append.new.self.pending.items)) c.in_ok-lsn.ensures.lsn) (c.in_ok-lsn.ensures.appended told base start groups st.forced' mid)
