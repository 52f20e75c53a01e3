use Rattle.std.proofs.Common.{◌≡◌, ◌∙◌, ◌+◌, ◌<◌, ℕ, List, [], length, Result, Ok, Err, sym, refl, ap, subst, arith, false}
use Rattle.std.proofs.lemmas.Result.{err_from_is_err_and}
use Rattle.aria_page.specs.declared.lsn.Lsn.{Lsn}
use Rattle.aria_page.specs.Lsn.{lsn_number}
use Rattle.aria_host.specs.declared.fault.Fault.{Fault}
use Rattle.aria_record.specs.declared.group_writer.GroupWriter.{GroupWriter}
use Rattle.aria_log.specs.Causes.{HasAppendCause}
use Rattle.aria_record.specs.Groups.{IsGroup}
use Rattle.aria_record.specs.Spelled.{group_bytes}
use Rattle.aria_record.specs.Writing.{Writes, records_of, size_of}
use Rattle.aria_record.proofs.Writers.{written_is, is_writing, length-group}
use Rattle.aria_log.specs.Log.{place}
use Rattle.aria_cache.specs.Frames.{held, stamp_all}
use Rattle.aria_recovery.specs.Frames.{all_of}
use Rattle.aria_pager.proofs.Editing.{on_err}
use Rattle.aria_pager.proofs.Stepping.{log_running, force_failed}
use Rattle.aria_pager.proofs.Ending.{end_step, stamped_alike}
use Rattle.aria_pager.proofs.page_store.PageStore.append.Goals as goal

pub append-requires-clause-group : goal.append-requires-clause-group
append-requires-clause-group g c =
    let rs = records_of c.args.self.now.writer in
    (rs, c.seal.ensures.group rs c.requires.writing c.requires.group, c.as_slice.ensures ∙ c.seal.ensures.sealed rs c.requires.writing c.requires.group)

pub append-requires-clause-log : goal.append-requires-clause-log
append-requires-clause-log g c = λ told.
    let p = c.requires.pager told in
    (p.0, p.2, p.3, log_running c.args.self.now.started c.args.self.now.log (g.H.Host.state c.args.host.now) p.0 p.2 p.3 c.requires.started p.4.log)

pub returns-in_err-lsn-clause-failed : goal.returns-in_err-lsn-clause-failed
returns-in_err-lsn-clause-failed g c = λ told. on_err c.from_residual.result (λ base start groups forced is.
    let store = c.args.self.now in
    let s = g.H.Host.state c.args.host.now in
    let t = g.H.Host.state c.append.new.host in
    let log = log_running store.started store.log s base groups forced c.requires.started is.log in
    let keeps = c.in_err-lsn.ensures.moments told base groups forced log in
    (force_failed store _ s t (all_of groups) base start groups forced false refl (λ f left. g.met.H.Host.counts_now c.append.new.host s.moment f told keeps.moments.later left) keeps is).steps)

pub returns-clause-appended : goal.returns-clause-appended
returns-clause-appended g c = λ told base start groups forced is pending pended.
    let store = c.args.self.now in
    let s = g.H.Host.state c.args.host.now in
    let t = g.H.Host.state c.append.new.host in
    let rs = records_of store.writer in
    let log = log_running store.started store.log s base groups forced c.requires.started is.log in
    let spelled : c.as_slice.result.now ≡ group_bytes rs = c.as_slice.ensures ∙ c.seal.ensures.sealed rs c.requires.writing c.requires.group in
    let is_group : IsGroup rs = c.seal.ensures.group rs c.requires.writing c.requires.group in
    let long : length c.as_slice.result.now ≡ length (group_bytes rs) = ap (λ (l : List ℕ). length l) spelled in
    let rises : place store.log < place c.append.new.self = omega (arith, c.in_ok-lsn.ensures.place, long, length-group store.writer rs c.requires.writing) in
    end_step store c.append.new.self c.stamp_pins.new.self c.clear.new.self pending s t base start groups forced record {
      is = is;
      here = g.met.H.Host.reads_now c.args.host.now told;
      started = c.requires.started;
      quiet = c.requires.quiet;
      keeps = c.in_ok-lsn.ensures.moments told base groups forced log;
      log = c.in_ok-lsn.ensures.appended told base groups forced log rs is_group spelled;
      rises = rises;
      frames_are = c.stamp_pins.ensures.held ∙ ap (λ (k : ℕ). stamp_all store.frames.pins.items k (held store.frames)) (ap lsn_number c.in_ok-lsn.ensures.lsn);
      pins = c.stamp_pins.ensures.pins;
      none = written_is c.clear.new.self [] c.clear.ensures.writes;
      written = is_writing c.clear.new.self [] c.clear.ensures.writes;
      pended = pended;
    }

-- the bytes of the group
size_is : (place : ℕ) (bytes : List ℕ) (writer : GroupWriter) → bytes ≡ group_bytes (records_of writer) → Writes writer (records_of writer) → place + length bytes ≡ place + size_of writer
size_is place bytes writer spelled writes = ap (λ (n : ℕ). place + n) (ap (λ (l : List ℕ). length l) spelled ∙ length-group writer (records_of writer) writes)

pub returns-in_err-lsn-clause-cause : goal.returns-in_err-lsn-clause-cause
returns-in_err-lsn-clause-cause g c =
    let store = c.args.self.now in
    let rs = records_of store.writer in
    let s = g.H.Host.state c.args.host.now in
    let t = g.H.Host.state c.append.new.host in
    let p = err_from_is_err_and c.from_residual.result c.from_residual.ensures.1 in
    let size = size_is (place store.log) c.as_slice.result.now store.writer (c.as_slice.ensures ∙ c.seal.ensures.sealed rs c.requires.writing c.requires.group) c.requires.writing in
    subst (λ (r : Result Lsn Fault). HasAppendCause (place store.log + size_of store.writer) store.log c.append.new.self c.args.host.now c.append.new.host s t r) (sym p.1)
    (subst (λ (n : ℕ). HasAppendCause {T = Lsn} n store.log c.append.new.self c.args.host.now c.append.new.host s t (Err p.0)) size (subst (λ (f : Fault). HasAppendCause {T = Lsn} (place store.log + length c.as_slice.result.now) store.log c.append.new.self c.args.host.now c.append.new.host s t (Err f)) (sym p.2) c.in_err-lsn.ensures.cause))

pub returns-clause-cause : goal.returns-clause-cause
returns-clause-cause g c =
    let store = c.args.self.now in
    let rs = records_of store.writer in
    let size = size_is (place store.log) c.as_slice.result.now store.writer (c.as_slice.ensures ∙ c.seal.ensures.sealed rs c.requires.writing c.requires.group) c.requires.writing in
    subst (λ (n : ℕ). HasAppendCause {T = Lsn} n store.log c.append.new.self c.args.host.now c.append.new.host (g.H.Host.state c.args.host.now) (g.H.Host.state c.append.new.host) (Ok c.in_ok-lsn.lsn)) size c.in_ok-lsn.ensures.cause

pub returns-clause-entries : goal.returns-clause-entries
returns-clause-entries g c = written_is c.clear.new.self [] c.clear.ensures.writes

pub returns-clause-alike : goal.returns-clause-alike
returns-clause-alike g c = stamped_alike c.args.self.now.frames c.stamp_pins.new.self c.args.self.now.frames.pins.items (lsn_number c.in_ok-lsn.lsn) c.stamp_pins.ensures.held

pub returns-in_err-lsn-clause-calm : goal.returns-in_err-lsn-clause-calm
returns-in_err-lsn-clause-calm g c = λ told.
    let p = c.requires.pager told in
    (c.in_err-lsn.ensures.moments told p.0 p.2 p.3 (log_running c.args.self.now.started c.args.self.now.log (g.H.Host.state c.args.host.now) p.0 p.2 p.3 c.requires.started p.4.log)).others.folder

pub returns-clause-calm : goal.returns-clause-calm
returns-clause-calm g c = λ told.
    let p = c.requires.pager told in
    (c.in_ok-lsn.ensures.moments told p.0 p.2 p.3 (log_running c.args.self.now.started c.args.self.now.log (g.H.Host.state c.args.host.now) p.0 p.2 p.3 c.requires.started p.4.log)).others.folder
