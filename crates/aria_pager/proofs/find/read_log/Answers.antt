use Rattle.std.proofs.Common.{◌∙◌, List, ap, refl, sym, subst}
use Rattle.std.specs.Prelude.{IfErr}
use Rattle.std.proofs.lemmas.Result.{err_from_is_err_and}
use Rattle.aria_host.proofs.Moments.{looks, narrows_then}
use Rattle.aria_record.specs.Logged.{Logged}
use Rattle.aria_log.specs.Pieces.{log_files}
use Rattle.aria_log.proofs.Bases.{opened_reads}
use Rattle.aria_recovery.specs.Analysed.{Has}
use Rattle.aria_pager.specs.Found.{RefusesLog}
use Rattle.aria_pager.proofs.LogRead.{chain_refused, end_refused, opened_on, is_read, was_opened}
use Rattle.aria_pager.proofs.find.read_log.Goals as goal

pub analyse-requires : goal.analyse-requires
analyse-requires g c = record {
  stands = λ told.
      let s = g.H.Host.state c.open.new.host in
      let t = g.H.Host.state c.sync_files.new.host in
      let is = (was_opened c.args.control.redo (log_files (g.H.Host.state c.args.host.now).folder) (g.H.Host.state c.open.new.host) c.in_ok-log.log (c.in_ok-log.ensures.opened told)).1 in
      let reads = opened_reads c.args.control.redo c.in_ok-log.log t is.base is.groups c.in_ok-log.log.last is.base_is
      (opened_on c.in_ok-log.log s t is.base is.groups c.in_ok-log.log.last (c.in_ok-sync_files.ensures.same told) is.opened) in
      (is.base, reads.0, reads.1, c.start_of-from.ensures ∙ reads.3);
}

pub returns-in_err-analysis-clause-same : goal.returns-in_err-analysis-clause-same
returns-in_err-analysis-clause-same g c = λ told.
    let s = g.H.Host.state c.args.host.now in
    let m = g.H.Host.state c.open.new.host in
    let t = g.H.Host.state c.sync_files.new.host in
    let u = g.H.Host.state c.analyse.new.host in
    narrows_then s m u (λ k f le leaves. g.met.H.Host.counts_now c.args.host.now k f told le leaves) (c.in_ok-log.ensures.same told)
    (narrows_then m t u (λ k f le leaves. g.met.H.Host.counts_now c.open.new.host k f told le leaves) (c.in_ok-sync_files.ensures.same told) (looks t u (c.in_err-analysis.ensures.same told)))

pub returns-in_err-check_chain-clause-refused : goal.returns-in_err-check_chain-clause-refused
returns-in_err-check_chain-clause-refused g c = λ told.
    let s0 = g.H.Host.state c.args.host.now in
    let s = g.H.Host.state c.open.new.host in
    let t = g.H.Host.state c.sync_files.new.host in
    let answer = was_opened c.args.control.redo (log_files (g.H.Host.state c.args.host.now).folder) (g.H.Host.state c.open.new.host) c.in_ok-log.log (c.in_ok-log.ensures.opened told) in
    let is = answer.1 in
    let reads = opened_reads c.args.control.redo c.in_ok-log.log t is.base is.groups c.in_ok-log.log.last is.base_is
    (opened_on c.in_ok-log.log s t is.base is.groups c.in_ok-log.log.last (c.in_ok-sync_files.ensures.same told) is.opened) in
    let has = c.in_ok-analysis.ensures.has told is.base reads.0 reads.1 (c.start_of-from.ensures ∙ reads.3) in
    let e = err_from_is_err_and c.from_residual-in_err-check_chain.result c.from_residual-in_err-check_chain.ensures.1 in
    subst (λ r. IfErr r (RefusesLog c.args.control (log_files s0.folder))) (sym e.1) (subst (RefusesLog c.args.control (log_files s0.folder)) (sym e.2)
    (chain_refused c.args.control (log_files s0.folder) s c.in_ok-log.log is.base is.groups c.in_ok-log.log.last c.in_err-check_chain.field-0.0 answer.0 is.base_is (ap log_files (c.in_ok-log.ensures.same told).folder) is.opened
    (c.in_err-check_chain.ensures.fails c.args.control.checkpoint is.groups (subst (λ (l : List Logged). Has c.args.control.checkpoint c.in_ok-analysis.analysis l) reads.2 has.0))))

pub returns-in_err-check_chain-clause-same : goal.returns-in_err-check_chain-clause-same
returns-in_err-check_chain-clause-same g c = λ told.
    let s = g.H.Host.state c.args.host.now in
    let m = g.H.Host.state c.open.new.host in
    let t = g.H.Host.state c.sync_files.new.host in
    let u = g.H.Host.state c.analyse.new.host in
    narrows_then s m u (λ k f le leaves. g.met.H.Host.counts_now c.args.host.now k f told le leaves) (c.in_ok-log.ensures.same told)
    (narrows_then m t u (λ k f le leaves. g.met.H.Host.counts_now c.open.new.host k f told le leaves) (c.in_ok-sync_files.ensures.same told) (looks t u (c.in_ok-analysis.ensures.same told)))

pub returns-clause-read : goal.returns-clause-read
returns-clause-read g c = λ told.
    let s = g.H.Host.state c.open.new.host in
    let t = g.H.Host.state c.sync_files.new.host in
    let u = g.H.Host.state c.analyse.new.host in
    let is = (was_opened c.args.control.redo (log_files (g.H.Host.state c.args.host.now).folder) (g.H.Host.state c.open.new.host) c.in_ok-log.log (c.in_ok-log.ensures.opened told)).1 in
    let opened = opened_on c.in_ok-log.log s t is.base is.groups c.in_ok-log.log.last (c.in_ok-sync_files.ensures.same told) is.opened in
    let reads = opened_reads c.args.control.redo c.in_ok-log.log t is.base is.groups c.in_ok-log.log.last is.base_is opened in
    let has = c.in_ok-analysis.ensures.has told is.base reads.0 reads.1 (c.start_of-from.ensures ∙ reads.3) in (
      is.base,
      is.groups,
      is_read c.args.control c.args.files t u _ is.base is.groups reads.0 is.base_is opened reads.2 (looks t u (c.in_ok-analysis.ensures.same told)) has (c.in_ok-check_chain.ensures.chained c.args.control.checkpoint _ has.0)
          (c.in_ok-sync_files.ensures.durable told) refl (c.start_of-from.ensures ∙ reads.3),
    )

pub returns-clause-same : goal.returns-clause-same
returns-clause-same g c = λ told.
    let s = g.H.Host.state c.args.host.now in
    let m = g.H.Host.state c.open.new.host in
    let t = g.H.Host.state c.sync_files.new.host in
    let u = g.H.Host.state c.analyse.new.host in
    narrows_then s m u (λ k f le leaves. g.met.H.Host.counts_now c.args.host.now k f told le leaves) (c.in_ok-log.ensures.same told)
    (narrows_then m t u (λ k f le leaves. g.met.H.Host.counts_now c.open.new.host k f told le leaves) (c.in_ok-sync_files.ensures.same told) (looks t u (c.in_ok-analysis.ensures.same told)))

pub returns-in_err-check_end-clause-refused : goal.returns-in_err-check_end-clause-refused
returns-in_err-check_end-clause-refused g c = λ told.
    let s0 = g.H.Host.state c.args.host.now in
    let s = g.H.Host.state c.open.new.host in
    let answer = was_opened c.args.control.redo (log_files s0.folder) s c.in_ok-log.log (c.in_ok-log.ensures.opened told) in
    let is = answer.1 in
    let e = err_from_is_err_and c.from_residual-in_err-check_end.result c.from_residual-in_err-check_end.ensures.1 in
    subst (λ r. IfErr r (RefusesLog c.args.control (log_files s0.folder))) (sym e.1) (subst (RefusesLog c.args.control (log_files s0.folder)) (sym e.2)
    (end_refused c.args.control (log_files s0.folder) s c.in_ok-log.log is.base is.groups c.in_ok-log.log.last c.in_err-check_end.field-0.0 answer.0 is.base_is (ap log_files (c.in_ok-log.ensures.same told).folder) is.opened
    c.in_err-check_end.ensures.fails))
