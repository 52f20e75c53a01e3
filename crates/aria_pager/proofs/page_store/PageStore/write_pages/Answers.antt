use Rattle.std.proofs.Common.{◌≡◌, ◌∙◌, true, false, is_ok, ap, refl}
use Rattle.std.proofs.lemmas.Result.{err_from_is_err_and}
use Rattle.aria_cache.specs.Frames.{held}
use Rattle.aria_pager.proofs.Stepping.{still_step, steps_on, fault_on, same_after}
use Rattle.aria_pager.proofs.Written.{same_none, clean_more}
use Rattle.aria_pager.proofs.page_store.PageStore.write_pages.Goals as goal

pub loop-key-init : goal.loop-key-init
loop-key-init g c = record {
  steps = λ told redone base start groups forced is.
      still_step c.args.self.now c.args.self.now (g.H.Host.state c.args.host.now) redone base start groups forced true (λ f b left. g.met.H.Host.only_now c.args.host.now f b told left) (g.met.H.Host.reads_now c.args.host.now told) (λ on p. p) is;
  pins = refl;
  clean = λ k off. absurd (let e : false ≡ true = off in (cc));
  fewer = λ k on. on;
  reach = refl;
  same = same_none c.args.self.now;
  disk = refl;
  tell = refl;
}

pub write_back-requires-clause-pager : goal.write_back-requires-clause-pager
write_back-requires-clause-pager g c = λ told.
    let p = c.requires.pager told in
    let st = c.loop-key.invariant.steps told p.0 p.1 p.2 p.3 p.4 p.5 in
    (p.0, p.1, p.2, p.3, st.forced', st.pager refl)

pub returns-in_err-write_back-clause-steps : goal.returns-in_err-write_back-clause-steps
returns-in_err-write_back-clause-steps g c = λ told redone base start groups forced is.
    let p = err_from_is_err_and c.from_residual.result c.from_residual.ensures.1 in
    let s = g.H.Host.state c.args.host.now in
    let m = g.H.Host.state c.loop-key.host in
    let t = g.H.Host.state c.write_back.new.host in
    let first = c.loop-key.invariant.steps told redone base start groups forced is in
    fault_on c.args.self.now c.write_back.new.self c.write_back.new.self s t redone base start groups forced false (is_ok c.from_residual.result) (ap is_ok p.1)
    (steps_on c.args.self.now c.loop-key.self c.write_back.new.self s m t redone base start groups forced false c.loop-key.invariant.same.opens first (c.in_err-write_back.ensures.steps told redone base start groups first.forced' (first.pager refl)))

pub loop-key-preserved : goal.loop-key-preserved
loop-key-preserved g c = record {
  steps = λ told redone base start groups forced is.
      let first = c.loop-key.invariant.steps told redone base start groups forced is in
      steps_on c.args.self.now c.loop-key.self c.write_back.new.self (g.H.Host.state c.args.host.now) (g.H.Host.state c.loop-key.host) (g.H.Host.state c.write_back.new.host) redone base start groups forced true c.loop-key.invariant.same.opens first
      (c.in_ok-write_back.ensures.steps told redone base start groups first.forced' (first.pager refl));
  pins = c.in_ok-write_back.ensures.pins ∙ c.loop-key.invariant.pins;
  clean = clean_more (held c.loop-key.self.frames) (held c.write_back.new.self.frames) c.args.keys.now c.loop-key.key-index c.loop-key-test.true c.loop-key.invariant.clean c.in_ok-write_back.ensures.dirty c.in_ok-write_back.ensures.clean;
  fewer = λ k on. c.loop-key.invariant.fewer k (c.in_ok-write_back.ensures.dirty k on);
  reach = c.in_ok-write_back.ensures.reach ∙ c.loop-key.invariant.reach;
  same = same_after c.args.self.now c.loop-key.self c.write_back.new.self c.loop-key.invariant.same c.in_ok-write_back.ensures.same;
  disk = c.in_ok-write_back.ensures.cause.calm ∙ c.loop-key.invariant.disk;
  tell = c.in_ok-write_back.ensures.cause.tell ∙ c.loop-key.invariant.tell;
}
