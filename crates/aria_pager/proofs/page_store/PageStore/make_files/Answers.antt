use Rattle.std.proofs.Common.{true, false, is_ok, ap, refl}
use Rattle.std.proofs.lemmas.Result.{err_from_is_err_and}
use Rattle.aria_pager.specs.Filing.{maker_in}
use Rattle.aria_pager.proofs.Filed.{look_file, files_on, files_fault}
use Rattle.aria_pager.proofs.Filling.{making_on}
use Rattle.aria_pager.proofs.page_store.PageStore.make_files.Goals as goal

pub returns-in_err-make_empty-clause-steps : goal.returns-in_err-make_empty-clause-steps
returns-in_err-make_empty-clause-steps g c = λ told base start groups is.
    let p = err_from_is_err_and c.from_residual.result c.from_residual.ensures.1 in
    files_fault c.args.self.now (g.H.Host.state c.args.host.now) (g.H.Host.state c.make_empty.new.host) base start groups false (is_ok c.from_residual.result) (ap is_ok p.1)
    (c.in_err-make_empty.ensures.steps told base start groups (maker_in c.args.table.now) is)

pub returns-in_err-write_first-clause-steps : goal.returns-in_err-write_first-clause-steps
returns-in_err-write_first-clause-steps g c = λ told base start groups is.
    let store = c.args.self.now in
    let maker = maker_in c.args.table.now in
    let s = g.H.Host.state c.args.host.now in
    let m = g.H.Host.state c.make_empty.new.host in
    let t = g.H.Host.state c.write_first.new.host in
    let p = err_from_is_err_and c.from_residual-in_err-write_first.result c.from_residual-in_err-write_first.ensures.1 in
    let first = c.in_ok-make_empty.ensures.steps told base start groups maker is in
    files_fault store s t base start groups false (is_ok c.from_residual-in_err-write_first.result) (ap is_ok p.1)
    (files_on store s m t base start groups false first (c.in_err-write_first.ensures.steps told base start groups (making_on store s m base start groups c.args.name.now maker is first)))

pub sync_table-requires-clause-names : goal.sync_table-requires-clause-names
sync_table-requires-clause-names g c = λ told.
    let store = c.args.self.now in
    let maker = maker_in c.args.table.now in
    let s = g.H.Host.state c.args.host.now in
    let m = g.H.Host.state c.make_empty.new.host in
    let (base, start, groups, is) = c.requires.making told in
    let first = c.in_ok-make_empty.ensures.steps told base start groups maker is in
    let second = c.in_ok-write_first.ensures.steps told base start groups (making_on store s m base start groups c.args.name.now maker is first) in
    (second.logged refl).names

pub returns-clause-steps : goal.returns-clause-steps
returns-clause-steps g c = λ told base start groups is.
    let store = c.args.self.now in
    let maker = maker_in c.args.table.now in
    let s = g.H.Host.state c.args.host.now in
    let m = g.H.Host.state c.make_empty.new.host in
    let t = g.H.Host.state c.write_first.new.host in
    let u = g.H.Host.state c.sync_table.new.host in
    let first = c.in_ok-make_empty.ensures.steps told base start groups maker is in
    let second = c.in_ok-write_first.ensures.steps told base start groups (making_on store s m base start groups c.args.name.now maker is first) in
    files_on store s t u base start groups (is_ok c.sync_table.result) (files_on store s m t base start groups true first second)
    (look_file store t u base start groups (is_ok c.sync_table.result) (λ f b left. g.met.H.Host.only_now c.write_first.new.host f b told left) (g.met.H.Host.reads_now c.sync_table.new.host told) (c.sync_table.ensures.narrows told) (second.logged refl))
