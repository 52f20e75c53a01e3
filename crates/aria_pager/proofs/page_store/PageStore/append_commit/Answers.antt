use Rattle.std.proofs.Common.{◌≡◌, ◌+◌, is_ok, [], ◌∷◌, ◌++◌, ap, refl, arith}
use Rattle.std.proofs.lemmas.Result.{err_from_is_err_and}
use Rattle.aria_record.specs.declared.record.Record.TheVariants.{Commit}
use Rattle.aria_log.specs.Log.{IsLog, place}
use Rattle.aria_pager.specs.Turns.{alone}
use Rattle.aria_pager.proofs.Stepping.{log_running}
use Rattle.aria_pager.proofs.Committing.{commit_group, commit_bytes, commit_failed, commit_step}
use Rattle.aria_pager.proofs.page_store.PageStore.append_commit.Goals as goal

pub append-requires-clause-group : goal.append-requires-clause-group
append-requires-clause-group g c = (Commit ∷ [], commit_group, commit_bytes)

pub returns-in_err-append-clause-turns : goal.returns-in_err-append-clause-turns
returns-in_err-append-clause-turns g c = λ told base start groups forced is.
    let p = err_from_is_err_and c.from_residual.result c.from_residual.ensures.1 in
    let s = g.H.Host.state c.args.host.now in
    let log = log_running c.args.self.now.started c.args.self.now.log s base groups forced (c.requires.started told) is.log in
    commit_failed c.args.self.now s (g.H.Host.state c.append.new.host) base start groups forced _ (is_ok c.from_residual.result) refl (ap is_ok p.1)
    (λ f left. g.met.H.Host.counts_now c.append.new.host s.moment f told (c.in_err-append.ensures.moments told base groups forced log).moments.later left) (c.in_err-append.ensures.moments told base groups forced log) is

pub returns-clause-turns : goal.returns-clause-turns
returns-clause-turns g c = λ told base start groups forced is.
    let s = g.H.Host.state c.args.host.now in
    let t = g.H.Host.state c.append.new.host in
    let log = log_running c.args.self.now.started c.args.self.now.log s base groups forced (c.requires.started told) is.log in
    let placed : place c.append.new.self ≡ place c.args.self.now.log + 10 = c.in_ok-append.ensures.place in
    let now : IsLog c.append.new.self t base (groups ++ alone c.args.self.now Commit ∷ []) forced = c.in_ok-append.ensures.appended told base groups forced log (Commit ∷ []) commit_group commit_bytes in
    commit_step c.args.self.now s t base start groups forced c.append.new.self c.clear.new.self (c.requires.started told) (c.requires.idle told) c.clear.ensures.items (c.in_ok-append.ensures.moments told base groups forced log)
    now (omega (arith, placed)) is
