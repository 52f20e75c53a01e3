use Rattle.std.proofs.Common.{◌∙◌, ◌<◌, ◌^◌, ℕ, List, ap, subst, sym, is_ok, arith}
use Rattle.std.proofs.lemmas.Result.{err_from_is_err_and}
use Rattle.aria_host.specs.declared.file_name.FileName.{FileName}
use Rattle.aria_host.specs.Calls.{Lists}
use Rattle.aria_host.specs.Folder.{Folder}
use Rattle.aria_log.specs.Purge.{Purges}
use Rattle.aria_log.proofs.Counting.{least}
use Rattle.aria_log.proofs.Purging.{purged_list, purged_after}
use Rattle.aria_log.proofs.Purged.{purged_stays}
use Rattle.aria_log.proofs.log.Log.purge.Goals as goal

pub returns-in_err-names-clause-purged : goal.returns-in_err-names-clause-purged
returns-in_err-names-clause-purged g c = λ told.
    let p = err_from_is_err_and c.from_residual.result c.from_residual.ensures.1 in
    purged_list (g.H.Host.state c.args.host.now) (g.H.Host.state c.names.new.self) c.args.below.file _ (λ f b left. g.met.H.Host.only_now c.args.host.now f b told left) (ap is_ok p.1) (c.in_err-names.ensures.same told)

pub returns-in_err-names-clause-log : goal.returns-in_err-names-clause-log
returns-in_err-names-clause-log g c = λ told base groups forced is before.
    let p = err_from_is_err_and c.from_residual.result c.from_residual.ensures.1 in
    let low : c.args.self.now.number < 2 ^ 34 = omega (arith, c.args.self.now.room) in
    purged_stays c.args.self.now (g.H.Host.state c.args.host.now) (g.H.Host.state c.names.new.self) base groups forced c.args.below.file _ low before
    (purged_list (g.H.Host.state c.args.host.now) (g.H.Host.state c.names.new.self) c.args.below.file _ (λ f b left. g.met.H.Host.only_now c.args.host.now f b told left) (ap is_ok p.1) (c.in_err-names.ensures.same told)) is

pub remove_files-requires-clause-lists : goal.remove_files-requires-clause-lists
remove_files-requires-clause-lists g c = λ told.
    let names = c.in_ok-names.ensures in
    subst (λ (l : List FileName). Lists (g.H.Host.state c.names.new.self).folder l) (sym c.as_slice.ensures) (subst (λ (x : Folder). Lists x c.in_ok-names.names) (sym (names.same told).folder) (names.names told))

pub returns-clause-purged : goal.returns-clause-purged
returns-clause-purged g c = λ told.
    purged_after (g.H.Host.state c.args.host.now) (g.H.Host.state c.names.new.self) (g.H.Host.state c.remove_files.new.host) c.args.below.file _ (λ f b left. g.met.H.Host.only_now c.args.host.now f b told left)
    (c.in_ok-names.ensures.same told) (subst (λ (k : ℕ). Purges k (g.H.Host.state c.names.new.self) (g.H.Host.state c.remove_files.new.host) (is_ok c.remove_files.result)) (c.min.ensures ∙ least c.args.below.file (2 ^ 24)) (c.remove_files.ensures.purged told))

pub returns-clause-log : goal.returns-clause-log
returns-clause-log g c = λ told base groups forced is before.
    let low : c.args.self.now.number < 2 ^ 34 = omega (arith, c.args.self.now.room) in
    purged_stays c.args.self.now (g.H.Host.state c.args.host.now) (g.H.Host.state c.remove_files.new.host) base groups forced c.args.below.file _ low before
    (purged_after (g.H.Host.state c.args.host.now) (g.H.Host.state c.names.new.self) (g.H.Host.state c.remove_files.new.host) c.args.below.file _ (λ f b left. g.met.H.Host.only_now c.args.host.now f b told left)
    (c.in_ok-names.ensures.same told) (subst (λ (k : ℕ). Purges k (g.H.Host.state c.names.new.self) (g.H.Host.state c.remove_files.new.host) (is_ok c.remove_files.result)) (c.min.ensures ∙ least c.args.below.file (2 ^ 24)) (c.remove_files.ensures.purged told))) is
