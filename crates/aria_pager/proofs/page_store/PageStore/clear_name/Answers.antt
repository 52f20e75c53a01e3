use Rattle.std.proofs.Common.{false, true, is_ok, ap, refl}
use Rattle.std.proofs.lemmas.Result.{err_from_is_err_and}
use Rattle.aria_recovery.specs.Frames.{all_of}
use Rattle.aria_pager.proofs.Stepping.{steps_on, fault_on}
use Rattle.aria_pager.proofs.page_store.PageStore.clear_name.Goals as goal

pub remove_new-requires : goal.remove_new-requires
remove_new-requires g c = record {
  pager = λ told.
      let p = c.requires.pager told in
      let st = c.in_ok-remove_left_overs.ensures.steps told p.0 p.1 p.2 p.3 p.4 in
      (p.0, p.1, p.2, st.forced', st.pager refl);
}

pub returns-in_err-remove_new-clause-steps : goal.returns-in_err-remove_new-clause-steps
returns-in_err-remove_new-clause-steps g c = λ told base start groups forced is.
    let store = c.args.self.now in
    let s = g.H.Host.state c.args.host.now in
    let m = g.H.Host.state c.remove_left_overs.new.host in
    let t = g.H.Host.state c.remove_new.new.host in
    let p = err_from_is_err_and c.from_residual-in_err-remove_new.result c.from_residual-in_err-remove_new.ensures.1 in
    let first = c.in_ok-remove_left_overs.ensures.steps told base start groups forced is in
    fault_on store store store s t (all_of groups) base start groups forced false (is_ok c.from_residual-in_err-remove_new.result) (ap is_ok p.1)
    (steps_on store store store s m t (all_of groups) base start groups forced false refl first (c.in_err-remove_new.ensures.steps told base start groups first.forced' (first.pager refl)))

pub remove_new-requires-2 : goal.remove_new-requires-2
remove_new-requires-2 g c = record {
  pager = λ told.
      let p = c.requires.pager told in
      let st = c.in_ok-remove_left_overs.ensures.steps told p.0 p.1 p.2 p.3 p.4 in
      let next = c.in_ok-remove_new.ensures.steps told p.0 p.1 p.2 st.forced' (st.pager refl) in
      (p.0, p.1, p.2, next.forced', next.pager refl);
}

pub returns-clause-steps : goal.returns-clause-steps
returns-clause-steps g c = λ told base start groups forced is.
    let store = c.args.self.now in
    let s = g.H.Host.state c.args.host.now in
    let m = g.H.Host.state c.remove_left_overs.new.host in
    let t = g.H.Host.state c.remove_new.new.host in
    let u = g.H.Host.state c.remove_new-2.new.host in
    let first = c.in_ok-remove_left_overs.ensures.steps told base start groups forced is in
    let both = steps_on store store store s m t (all_of groups) base start groups forced true refl first (c.in_ok-remove_new.ensures.steps told base start groups first.forced' (first.pager refl)) in
    steps_on store store store s t u (all_of groups) base start groups forced (is_ok c.remove_new-2.result) refl both (c.remove_new-2.ensures.steps told base start groups both.forced' (both.pager refl))
