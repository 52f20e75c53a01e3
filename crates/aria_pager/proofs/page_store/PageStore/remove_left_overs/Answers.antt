use Rattle.std.proofs.Common.{◌∙◌, false, is_ok, ap, refl}
use Rattle.std.proofs.lemmas.Result.{err_from_is_err_and}
use Rattle.aria_page.specs.declared.place.Part.TheVariants.{Keys}
use Rattle.aria_host.proofs.Answered.{on_ok, on_ok_of}
use Rattle.aria_recovery.specs.Tables.{file}
use Rattle.aria_recovery.specs.Frames.{all_of}
use Rattle.aria_pager.proofs.Removing.{both_gone}
use Rattle.aria_pager.proofs.Stepping.{steps_on, fault_on}
use Rattle.aria_pager.proofs.page_store.PageStore.remove_left_overs.Goals as goal

pub returns-in_err-remove_left-clause-steps : goal.returns-in_err-remove_left-clause-steps
returns-in_err-remove_left-clause-steps g c = λ told base start groups forced is.
    let p = err_from_is_err_and c.from_residual.result c.from_residual.ensures.1 in
    fault_on c.args.self.now c.args.self.now c.args.self.now (g.H.Host.state c.args.host.now) (g.H.Host.state c.remove_left.new.host) (all_of groups) base start groups forced false (is_ok c.from_residual.result) (ap is_ok p.1)
    (c.in_err-remove_left.ensures.steps told base start groups forced is)

pub remove_left-requires-2-clause-pager : goal.remove_left-requires-2-clause-pager
remove_left-requires-2-clause-pager g c = λ told.
    let p = c.requires.pager told in
    let st = c.in_ok-remove_left.ensures.steps told p.0 p.1 p.2 p.3 p.4 in
    (p.0, p.1, p.2, st.forced', st.pager refl)

pub returns-clause-steps : goal.returns-clause-steps
returns-clause-steps g c = λ told base start groups forced is.
    let store = c.args.self.now in
    let s = g.H.Host.state c.args.host.now in
    let m = g.H.Host.state c.remove_left.new.host in
    let t = g.H.Host.state c.remove_left-2.new.host in
    let first = c.in_ok-remove_left.ensures.steps told base start groups forced is in
    steps_on store store store s m t (all_of groups) base start groups forced (is_ok c.remove_left-2.result) refl first (c.remove_left-2.ensures.steps told base start groups first.forced' (first.pager refl))

pub returns-clause-gone : goal.returns-clause-gone
returns-clause-gone g c = λ told.
    let t = g.H.Host.state c.remove_left-2.new.host in
    on_ok c.remove_left-2.result _ (λ on. both_gone c.args.name.now t.folder
    (c.remove_left-2.ensures.others told (file c.args.name.now Keys) refl ∙ c.in_ok-remove_left.ensures.gone told)
    (on_ok_of c.remove_left-2.result _ (c.remove_left-2.ensures.gone told) on))
