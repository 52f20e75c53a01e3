use Rattle.std.proofs.Common.{◌∙◌, true, false, is_ok, ap, refl, sym, subst}
use Rattle.std.proofs.lemmas.Result.{err_from_is_err_and}
use Rattle.aria_recovery.specs.Frames.{all_of}
use Rattle.aria_pager.specs.declared.page_store.PageStore.{PageStore}
use Rattle.aria_pager.specs.PageStore.{opened}
use Rattle.aria_pager.specs.Pager.{IsPager}
use Rattle.aria_pager.specs.Steps.{Steps}
use Rattle.aria_pager.proofs.Reserving.{opens_same, reserve_step, pager_reserved}
use Rattle.aria_pager.proofs.Stepping.{steps_on, fault_on}
use Rattle.aria_pager.proofs.page_store.PageStore.make_ready.Goals as goal

pub returns-in_err-table-clause-steps : goal.returns-in_err-table-clause-steps
returns-in_err-table-clause-steps g c = λ told base start groups forced is.
    let p = err_from_is_err_and c.from_residual-in_err-table.result c.from_residual-in_err-table.ensures.1 in
    fault_on c.args.self.now c.start.new.self c.start.new.self (g.H.Host.state c.args.host.now) (g.H.Host.state c.start.new.host) (all_of groups) base start groups forced true (is_ok c.from_residual-in_err-table.result) (ap is_ok p.1)
    (c.in_ok-start.ensures.steps told base start groups forced is)

pub returns-in_err-n-clause-steps : goal.returns-in_err-n-clause-steps
returns-in_err-n-clause-steps g c = λ told base start groups forced is.
    let p = err_from_is_err_and c.from_residual-in_err-n.result c.from_residual-in_err-n.ensures.1 in
    fault_on c.args.self.now c.start.new.self c.reserve.new.self (g.H.Host.state c.args.host.now) (g.H.Host.state c.start.new.host) (all_of groups) base start groups forced true (is_ok c.from_residual-in_err-n.result) (ap is_ok p.1)
    (c.in_ok-start.ensures.steps told base start groups forced is)

pub clear_name-requires-clause-pager : goal.clear_name-requires-clause-pager
clear_name-requires-clause-pager g c = λ told.
    let p = c.requires.pager told in
    let st = c.in_ok-start.ensures.steps told p.0 p.1 p.2 p.3 p.4 in (
      p.0,
      p.1,
      p.2,
      st.forced',
      subst (λ (v : PageStore). IsPager v (g.H.Host.state c.start.new.host) p.0 p.1 p.2 st.forced') (sym c.in_ok-n.ensures.rest)
          (pager_reserved c.start.new.self c.reserve.new.self.slots c.in_ok-n.ensures.reserves.slots (g.H.Host.state c.start.new.host) p.0 p.1 p.2 st.forced' (st.pager refl)),
    )

pub returns-in_err-clear_name-clause-steps : goal.returns-in_err-clear_name-clause-steps
returns-in_err-clear_name-clause-steps g c = λ told base start groups forced is.
    let a = c.args.self.now in
    let b = c.start.new.self in
    let d = c.reserve.new.self in
    let s = g.H.Host.state c.args.host.now in
    let t = g.H.Host.state c.start.new.host in
    let u = g.H.Host.state c.clear_name.new.host in
    let p = err_from_is_err_and c.from_residual-in_err-clear_name.result c.from_residual-in_err-clear_name.ensures.1 in
    let first = c.in_ok-start.ensures.steps told base start groups forced is in
    let reserved : Steps b d t t base start groups first.forced' true = subst (λ (v : PageStore). Steps b v t t base start groups first.forced' true) (sym c.in_ok-n.ensures.rest)
    (reserve_step b d.slots c.in_ok-n.ensures.reserves.slots t base start groups first.forced' true (λ f b left. g.met.H.Host.only_now c.start.new.host f b told left) (g.met.H.Host.reads_now c.start.new.host told) (first.pager refl)) in
    let both = steps_on a b d s t t (all_of groups) base start groups forced true (ap opened c.in_ok-start.ensures.rest) first reserved in
    let opens = ap opened c.in_ok-n.ensures.rest ∙ opens_same b d.slots c.in_ok-n.ensures.reserves.slots ∙ ap opened c.in_ok-start.ensures.rest in
    fault_on a d d s u (all_of groups) base start groups forced false (is_ok c.from_residual-in_err-clear_name.result) (ap is_ok p.1)
    (steps_on a d d s t u (all_of groups) base start groups forced false opens both (c.in_err-clear_name.ensures.steps told base start groups both.forced' (both.pager refl)))

pub returns-clause-steps : goal.returns-clause-steps
returns-clause-steps g c = λ told base start groups forced is.
    let a = c.args.self.now in
    let b = c.start.new.self in
    let d = c.reserve.new.self in
    let s = g.H.Host.state c.args.host.now in
    let t = g.H.Host.state c.start.new.host in
    let u = g.H.Host.state c.clear_name.new.host in
    let first = c.in_ok-start.ensures.steps told base start groups forced is in
    let reserved : Steps b d t t base start groups first.forced' true = subst (λ (v : PageStore). Steps b v t t base start groups first.forced' true) (sym c.in_ok-n.ensures.rest)
    (reserve_step b d.slots c.in_ok-n.ensures.reserves.slots t base start groups first.forced' true (λ f b left. g.met.H.Host.only_now c.start.new.host f b told left) (g.met.H.Host.reads_now c.start.new.host told) (first.pager refl)) in
    let both = steps_on a b d s t t (all_of groups) base start groups forced true (ap opened c.in_ok-start.ensures.rest) first reserved in
    let opens = ap opened c.in_ok-n.ensures.rest ∙ opens_same b d.slots c.in_ok-n.ensures.reserves.slots ∙ ap opened c.in_ok-start.ensures.rest in
    steps_on a d d s t u (all_of groups) base start groups forced true opens both (c.in_ok-clear_name.ensures.steps told base start groups both.forced' (both.pager refl))
