use Rattle.std.proofs.Common.{◌∙◌, true, false, is_ok, ap, refl}
use Rattle.std.proofs.lemmas.Result.{err_from_is_err_and}
use Rattle.aria_pager.proofs.Stepping.{still_step, same_after}
use Rattle.aria_pager.proofs.Written.{forces_failed, forces_on}
use Rattle.aria_pager.proofs.page_store.PageStore.write_files.Goals as goal

pub returns-in_err-keys-clause-forces : goal.returns-in_err-keys-clause-forces
returns-in_err-keys-clause-forces g c = λ told redone base start groups forced is.
    let p = err_from_is_err_and c.from_residual.result c.from_residual.ensures.1 in
    let s = g.H.Host.state c.args.host.now in
    forces_failed c.args.self.now c.args.self.now s s redone base start groups forced true (is_ok c.from_residual.result) (ap is_ok p.1)
    (still_step c.args.self.now c.args.self.now s redone base start groups forced true (λ f b left. g.met.H.Host.only_now c.args.host.now f b told left) (g.met.H.Host.reads_now c.args.host.now told) (λ on p. p) is)

pub returns-in_err-force_all-clause-forces : goal.returns-in_err-force_all-clause-forces
returns-in_err-force_all-clause-forces g c = λ told redone base start groups forced is.
    let p = err_from_is_err_and c.from_residual-in_err-force_all.result c.from_residual-in_err-force_all.ensures.1 in
    forces_failed c.args.self.now c.force_all.new.self (g.H.Host.state c.args.host.now) (g.H.Host.state c.force_all.new.host) redone base start groups forced false (is_ok c.from_residual-in_err-force_all.result) (ap is_ok p.1)
    (c.in_err-force_all.ensures.forces told redone base start groups forced is).steps

pub write_pages-requires-clause-pager : goal.write_pages-requires-clause-pager
write_pages-requires-clause-pager g c = λ told.
    let p = c.requires.pager told in
    let f = (c.in_ok-force_all.ensures.forces told p.0 p.1 p.2 p.3 p.4 p.5).steps in
    (p.0, p.1, p.2, p.3, f.forced', f.pager refl)

pub returns-in_err-write_pages-clause-forces : goal.returns-in_err-write_pages-clause-forces
returns-in_err-write_pages-clause-forces g c = λ told redone base start groups forced is.
    let p = err_from_is_err_and c.from_residual-in_err-write_pages.result c.from_residual-in_err-write_pages.ensures.1 in
    let s = g.H.Host.state c.args.host.now in
    let m = g.H.Host.state c.force_all.new.host in
    let t = g.H.Host.state c.write_pages.new.host in
    let first = c.in_ok-force_all.ensures.forces told redone base start groups forced is in
    forces_failed c.args.self.now c.write_pages.new.self s t redone base start groups forced false (is_ok c.from_residual-in_err-write_pages.result) (ap is_ok p.1)
    (forces_on c.args.self.now c.force_all.new.self c.write_pages.new.self s m t redone base start groups forced false c.in_ok-force_all.ensures.same.opens first
    (c.in_err-write_pages.ensures.steps told redone base start groups first.steps.forced' (first.steps.pager refl))).steps

pub returns-in_err-write_pages-clause-same : goal.returns-in_err-write_pages-clause-same
returns-in_err-write_pages-clause-same g c = same_after c.args.self.now c.force_all.new.self c.write_pages.new.self c.in_ok-force_all.ensures.same c.in_err-write_pages.ensures.same

pub sync_tables-requires : goal.sync_tables-requires
sync_tables-requires g c = record {
  pager = λ told.
      let p = c.requires.pager told in
      let f = (c.in_ok-force_all.ensures.forces told p.0 p.1 p.2 p.3 p.4 p.5).steps in
      let w = c.in_ok-write_pages.ensures.steps told p.0 p.1 p.2 p.3 f.forced' (f.pager refl) in
      (p.0, p.1, p.2, p.3, w.forced', w.pager refl);
}

pub returns-clause-forces : goal.returns-clause-forces
returns-clause-forces g c = λ told redone base start groups forced is.
    let store = c.args.self.now in
    let mid = c.force_all.new.self in
    let end = c.write_pages.new.self in
    let s = g.H.Host.state c.args.host.now in
    let m = g.H.Host.state c.force_all.new.host in
    let t = g.H.Host.state c.write_pages.new.host in
    let u = g.H.Host.state c.sync_tables.new.host in
    let first = c.in_ok-force_all.ensures.forces told redone base start groups forced is in
    let two = forces_on store mid end s m t redone base start groups forced true c.in_ok-force_all.ensures.same.opens first (c.in_ok-write_pages.ensures.steps told redone base start groups first.steps.forced' (first.steps.pager refl)) in
    forces_on store end end s t u redone base start groups forced (is_ok c.sync_tables.result) (c.in_ok-write_pages.ensures.same.opens ∙ c.in_ok-force_all.ensures.same.opens) two
    (c.sync_tables.ensures.steps told redone base start groups two.steps.forced' (two.steps.pager refl))

pub returns-clause-same : goal.returns-clause-same
returns-clause-same g c = same_after c.args.self.now c.force_all.new.self c.write_pages.new.self c.in_ok-force_all.ensures.same c.in_ok-write_pages.ensures.same
