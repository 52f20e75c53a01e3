use Rattle.std.proofs.Common.{◌≡◌, ◌∙◌, ℕ, true, false, is_ok, Some, ap, sym, subst, refl}
use Rattle.std.proofs.lemmas.Result.{err_from_is_err_and}
use Rattle.aria_page.specs.Lsn.{IsLsn, lsn_number}
use Rattle.aria_page.specs.Page.{page_body}
use Rattle.aria_cache.specs.Frames.{Held, held, shown, is_pinned}
use Rattle.aria_recovery.specs.Redo.{seen}
use Rattle.aria_recovery.specs.Forced.{IsForced}
use Rattle.aria_recovery.specs.Frames.{as_seen}
use Rattle.aria_log.specs.Log.{place}
use Rattle.aria_pager.proofs.Stepping.{still_step, steps_on, fault_on, same_after, seen_held, lsn_fits}
use Rattle.aria_host.proofs.Answered.{on_ok, on_ok_of}
use Rattle.aria_pager.proofs.Quiet.{keeps_on}
use Rattle.aria_pager.proofs.Looking.{looks_on}
use Rattle.aria_pager.proofs.Viewing.{tidy_same}
use Rattle.aria_pager.proofs.page_store.PageStore.write_back.Goals as goal

pub returns-in_default-clause-steps : goal.returns-in_default-clause-steps
returns-in_default-clause-steps g c = λ told redone base start groups forced is.
    still_step c.args.self.now c.args.self.now (g.H.Host.state c.args.host.now) redone base start groups forced true (λ f b left. g.met.H.Host.only_now c.args.host.now f b told left) (g.met.H.Host.reads_now c.args.host.now told) (λ on p. p) is

pub returns-then-not-frame-clause-steps : goal.returns-then-not-frame-clause-steps
returns-then-not-frame-clause-steps g c = λ told redone base start groups forced is.
    still_step c.args.self.now c.args.self.now (g.H.Host.state c.args.host.now) redone base start groups forced true (λ f b left. g.met.H.Host.only_now c.args.host.now f b told left) (g.met.H.Host.reads_now c.args.host.now told) (λ on p. p) is

pub returns-in_err-force_for-clause-steps : goal.returns-in_err-force_for-clause-steps
returns-in_err-force_for-clause-steps g c = λ told redone base start groups forced is.
    let p = err_from_is_err_and c.from_residual.result c.from_residual.ensures.1 in
    fault_on c.args.self.now c.force_for.new.self c.force_for.new.self (g.H.Host.state c.args.host.now) (g.H.Host.state c.force_for.new.host) redone base start groups forced false (is_ok c.from_residual.result) (ap is_ok p.1)
    (c.in_err-force_for.ensures.forces told redone base start groups forced is).steps

pub put-requires : goal.put-requires
put-requires g c = record {
  pager = λ told.
      let p = c.requires.pager told in
      let f = c.in_ok-force_for.ensures.forces told p.0 p.1 p.2 p.3 p.4 p.5 in
      (p.0, p.1, p.2, p.3, f.steps.forced', shown c.in-Some.frame.now, f.steps.pager refl, ap (λ v. held v c.args.key) c.in_ok-force_for.ensures.frames ∙ sym c.in-Some.ensures);
}

pub returns-clause-steps : goal.returns-clause-steps
returns-clause-steps g c = λ told redone base start groups forced is.
    let old = g.H.Host.state c.args.host.now in
    let mid = g.H.Host.state c.force_for.new.host in
    let new = g.H.Host.state c.put.new.host in
    let store = c.force_for.new.self in
    let f = c.in_ok-force_for.ensures.forces told redone base start groups forced is in
    let frames = c.in_ok-force_for.ensures.frames in
    let h : Held = shown c.in-Some.frame.now in
    let was : held c.args.self.now.frames c.args.key ≡ Some h = sym c.in-Some.ensures in
    let same : c.bounded-lsn.result ≡ c.in-Some.frame.now.lsn = c.bounded-lsn.ensures.same in
    let fits : IsLsn c.bounded-lsn.result = subst IsLsn (sym same) (lsn_fits c.in-Some.frame.now.lsn (place c.args.self.now.log) ((is.pages c.args.key).below h was) c.in_ok-force_for.ensures.low c.bounded-lsn.ensures.small) in
    let sealed : seen c.seal.new.self ≡ Some (as_seen h) = seen_held c.in-Some.frame.now c.seal.new.self c.bounded-lsn.result same c.seal.ensures.sums (c.seal.ensures.lsn fits) (c.seal.ensures.body ∙ ap page_body c.deref.ensures) in
    let ahead : IsForced h.lsn groups f.steps.forced' = subst (λ (n : ℕ). IsForced n groups f.steps.forced') (ap lsn_number same) (f.ahead refl) in
    steps_on c.args.self.now store c.put.new.self old mid new redone base start groups forced (is_ok c.put.result) c.in_ok-force_for.ensures.same.opens f.steps
    (c.put.ensures.steps told redone base start groups f.steps.forced' h (f.steps.pager refl) (ap (λ v. held v c.args.key) frames ∙ was) c.if-not-frame.false (ap (λ v. is_pinned v c.args.key) frames ∙ c.requires.free told) sealed ahead)

pub returns-clause-same : goal.returns-clause-same
returns-clause-same g c = same_after c.args.self.now c.force_for.new.self c.put.new.self c.in_ok-force_for.ensures.same c.put.ensures.same

pub returns-clause-quiet : goal.returns-clause-quiet
returns-clause-quiet g c = λ told idle. on_ok c.put.result _ (λ done.
    let first = c.in_ok-force_for.ensures.quiet told idle in
    keeps_on c.args.self.now c.force_for.new.self c.put.new.self (g.H.Host.state c.args.host.now).folder (g.H.Host.state c.force_for.new.host).folder (g.H.Host.state c.put.new.host).folder first
    (on_ok_of c.put.result _ (c.put.ensures.quiet told (ap (λ v. v.used) first.log ∙ idle)) done))

pub returns-clause-pages : goal.returns-clause-pages
returns-clause-pages g c = λ told tidy.
    looks_on c.args.self.now c.force_for.new.self c.put.new.self (g.H.Host.state c.args.host.now).folder (g.H.Host.state c.force_for.new.host).folder (g.H.Host.state c.put.new.host).folder (c.in_ok-force_for.ensures.pages told tidy)
    (c.put.ensures.pages told (tidy_same c.args.self.now c.force_for.new.self c.in_ok-force_for.ensures.same tidy))

pub returns-clause-fewer : goal.returns-clause-fewer
returns-clause-fewer g c = λ k none. c.put.ensures.fewer k (ap (λ v. held v k) c.in_ok-force_for.ensures.frames ∙ none)
