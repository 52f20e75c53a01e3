use Rattle.std.proofs.Common.{false, is_ok, ap, refl}
use Rattle.std.proofs.lemmas.Result.{err_from_is_err_and}
use Rattle.aria_pager.proofs.Filed.{files_on, files_fault}
use Rattle.aria_pager.proofs.page_store.PageStore.remove_files.Goals as goal

pub returns-in_err-remove_dropped-clause-steps : goal.returns-in_err-remove_dropped-clause-steps
returns-in_err-remove_dropped-clause-steps g c = λ told base start groups is dropped closed.
    let p = err_from_is_err_and c.from_residual.result c.from_residual.ensures.1 in
    files_fault c.args.self.now (g.H.Host.state c.args.host.now) (g.H.Host.state c.remove_dropped.new.host) base start groups false (is_ok c.from_residual.result) (ap is_ok p.1)
    (c.in_err-remove_dropped.ensures.steps told base start groups is dropped closed)

pub returns-clause-steps : goal.returns-clause-steps
returns-clause-steps g c = λ told base start groups is dropped closed.
    let store = c.args.self.now in
    let s = g.H.Host.state c.args.host.now in
    let m = g.H.Host.state c.remove_dropped.new.host in
    let t = g.H.Host.state c.remove_dropped-2.new.host in
    let first = c.in_ok-remove_dropped.ensures.steps told base start groups is dropped closed in
    files_on store s m t base start groups (is_ok c.remove_dropped-2.result) first (c.remove_dropped-2.ensures.steps told base start groups (first.logged refl) dropped closed)
