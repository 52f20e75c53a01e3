use Rattle.std.proofs.Common.{rules, ◌∙◌, inl, inr, is_ok, length, ap, refl, sym, subst, arith}
use Rattle.std.proofs.lemmas.Bool.{cases_Bool}
use Rattle.std.proofs.lemmas.Result.{err_from_is_err_and}
use Rattle.aria_host.proofs.Moments.{unchanged_now}
use Rattle.aria_log.specs.Pieces.{log_files}
use Rattle.aria_log.specs.declared.log.Log.{Log as LogValue}
use Rattle.aria_pager.specs.Redone.{OfEdited, Redoes}
use Rattle.aria_pager.proofs.Stepping.{same_after}
use Rattle.aria_pager.proofs.Again.{cause_on, if_err_at}
use Rattle.aria_pager.proofs.Walk.{walked_none, walking, walked_more, walked_all, walked_failed, walked_few}
use Rattle.aria_pager.proofs.page_store.PageStore.redo.Goals as goal

pub loop-nth-init : goal.loop-nth-init
loop-nth-init g c = record {
  walked = λ told base start groups forced begins. walked_none c.args.self.now (g.H.Host.state c.args.host.now) c.args.analysis.now c.args.from base start groups forced (λ f b left. g.met.H.Host.only_now c.args.host.now f b told left) (g.met.H.Host.reads_now c.args.host.now told) (unchanged_now (g.H.Host.state c.args.host.now)) begins;
  reader = λ told. c.new-reader.ensures.reader (log_files (g.H.Host.state c.args.host.now).folder);
  same = search rules;
  aside = λ told f aside. refl;
  disk = refl;
  tell = refl;
}

pub redo_step-requires-clause-walking : goal.redo_step-requires-clause-walking
redo_step-requires-clause-walking g c = λ told.
    let (base, start, groups, forced, begins) = c.requires.begins told in
    let w = c.loop-nth.invariant.walked told base start groups forced begins in (
      w.passed,
      w.left,
      base,
      start,
      groups,
      w.redoes.steps.forced',
      walking c.args.self.now c.loop-nth.self (g.H.Host.state c.args.host.now) (g.H.Host.state c.loop-nth.host) c.args.analysis.now c.args.from c.loop-nth.at c.loop-nth._nth base start groups forced begins c.loop-nth.invariant.same w,
    )

pub returns-in_err-redo_step-clause-redoes : goal.returns-in_err-redo_step-clause-redoes
returns-in_err-redo_step-clause-redoes g c = λ told base start groups forced begins.
    let e = err_from_is_err_and c.from_residual.result c.from_residual.ensures.1 in
    let w = c.loop-nth.invariant.walked told base start groups forced begins in
    let a = c.args.self.now in
    let l = c.loop-nth.self in
    let n = c.redo_step.new.self in
    let s = g.H.Host.state c.args.host.now in
    let t = g.H.Host.state c.loop-nth.host in
    let u = g.H.Host.state c.redo_step.new.host in
    subst (λ b. Redoes a n s u (λ k. length groups) base start groups forced b) (sym (ap is_ok e.1))
    (walked_failed a l s t c.args.analysis.now c.args.from c.loop-nth.at c.loop-nth._nth base start groups forced begins c.loop-nth.invariant.same w n u c.in_err-redo_step.field-0.0
    (c.in_err-redo_step.ensures.walks told w.passed w.left base start groups w.redoes.steps.forced' (walking a l s t c.args.analysis.now c.args.from c.loop-nth.at c.loop-nth._nth base start groups forced begins c.loop-nth.invariant.same w)))

pub returns-in_err-redo_step-clause-cause : goal.returns-in_err-redo_step-clause-cause
returns-in_err-redo_step-clause-cause g c =
    let e = err_from_is_err_and c.from_residual.result c.from_residual.ensures.1 in
    cause_on g.H.Host.tells c.redo_step.new.self (g.H.Host.state c.args.host.now) (g.H.Host.state c.loop-nth.host) (g.H.Host.state c.redo_step.new.host) c.from_residual.result e.0 c.in_err-redo_step.field-0.0 e.1 e.2
    c.loop-nth.invariant.disk c.loop-nth.invariant.tell c.in_err-redo_step.ensures.cause

pub returns-in-None-clause-redoes : goal.returns-in-None-clause-redoes
returns-in-None-clause-redoes g c = λ told base start groups forced begins.
    let w = c.loop-nth.invariant.walked told base start groups forced begins in
    let a = c.args.self.now in
    let l = c.loop-nth.self in
    let n = c.redo_step.new.self in
    let s = g.H.Host.state c.args.host.now in
    let t = g.H.Host.state c.loop-nth.host in
    let u = g.H.Host.state c.redo_step.new.host in
    walked_all a l s t c.args.analysis.now c.args.from c.loop-nth.at c.loop-nth._nth base start groups forced begins c.loop-nth.invariant.same w n u
    (rw c.in-None.is at (c.in_ok-redo_step.ensures.walks told w.passed w.left base start groups w.redoes.steps.forced' (walking a l s t c.args.analysis.now c.args.from c.loop-nth.at c.loop-nth._nth base start groups forced begins c.loop-nth.invariant.same w)))

pub loop-nth-preserved : goal.loop-nth-preserved
loop-nth-preserved g c = record {
  walked = λ told base start groups forced begins.
      let w = c.loop-nth.invariant.walked told base start groups forced begins in
      let a = c.args.self.now in
      let l = c.loop-nth.self in
      let n = c.redo_step.new.self in
      let s = g.H.Host.state c.args.host.now in
      let t = g.H.Host.state c.loop-nth.host in
      let u = g.H.Host.state c.redo_step.new.host in
      walked_more a l s t c.args.analysis.now c.args.from c.loop-nth.at c.loop-nth._nth base start groups forced begins c.loop-nth.invariant.same w n u c.in-Some.after
      (rw c.in-Some.is at (c.in_ok-redo_step.ensures.walks told w.passed w.left base start groups w.redoes.steps.forced' (walking a l s t c.args.analysis.now c.args.from c.loop-nth.at c.loop-nth._nth base start groups forced begins c.loop-nth.invariant.same w)));
  reader = c.in_ok-redo_step.ensures.reader;
  same = same_after c.args.self.now c.loop-nth.self c.redo_step.new.self c.loop-nth.invariant.same c.in_ok-redo_step.ensures.same;
  aside = λ told f aside. c.in_ok-redo_step.ensures.aside told f aside ∙ c.loop-nth.invariant.aside told f aside;
  disk = c.in_ok-redo_step.ensures.cause.calm ∙ c.loop-nth.invariant.disk;
  tell = c.in_ok-redo_step.ensures.cause.tell ∙ c.loop-nth.invariant.tell;
}

pub returns-clause-redoes : goal.returns-clause-redoes
returns-clause-redoes g c = λ told base start groups forced begins.
    let w = c.loop-nth.invariant.walked told base start groups forced begins in
    let few = walked_few c.args.self.now c.loop-nth.self (g.H.Host.state c.args.host.now) (g.H.Host.state c.loop-nth.host) c.args.analysis.now c.args.from c.loop-nth.at c.loop-nth._nth base start groups forced begins c.loop-nth.invariant.same w in
    absurd (omega (arith, c.loop-nth-test.false, few))

pub returns-clause-cause : goal.returns-clause-cause
returns-clause-cause g c = record {
  only = elim (cases_Bool g.H.Host.tells) [
    | inl told ↦
        let (base, start, groups, forced, begins) = c.requires.begins told in
        let w = c.loop-nth.invariant.walked told base start groups forced begins in
        let few = walked_few c.args.self.now c.loop-nth.self (g.H.Host.state c.args.host.now) (g.H.Host.state c.loop-nth.host) c.args.analysis.now c.args.from c.loop-nth.at c.loop-nth._nth base start groups forced begins c.loop-nth.invariant.same w in
        absurd (omega (arith, c.loop-nth-test.false, few))
    | inr untold ↦ inr (untold, refl)
  ];
  calm = tt;
  later = omega (arith, c.loop-nth.invariant.disk);
  tell = c.loop-nth.invariant.tell;
}

pub returns-in_err-redo_step-clause-edited : goal.returns-in_err-redo_step-clause-edited
returns-in_err-redo_step-clause-edited g c = λ told base start groups forced begins.
    let e = err_from_is_err_and c.from_residual.result c.from_residual.ensures.1 in
    let w = c.loop-nth.invariant.walked told base start groups forced begins in
    let d = (g.H.Host.state c.redo_step.new.host).folder in
    if_err_at c.from_residual.result (OfEdited c.args.self.now.log groups d) e.0 c.in_err-redo_step.field-0.0 e.1 e.2
    (subst (λ (l : LogValue). OfEdited l groups d c.in_err-redo_step.field-0.0) (w.redoes.log refl).log
    (c.in_err-redo_step.ensures.edited told w.passed w.left base start groups w.redoes.steps.forced'
    (walking c.args.self.now c.loop-nth.self (g.H.Host.state c.args.host.now) (g.H.Host.state c.loop-nth.host) c.args.analysis.now c.args.from c.loop-nth.at c.loop-nth._nth base start groups forced begins c.loop-nth.invariant.same w)))

pub returns-clause-edited : goal.returns-clause-edited
returns-clause-edited g c = λ told base start groups forced begins.
    let w = c.loop-nth.invariant.walked told base start groups forced begins in
    let few = walked_few c.args.self.now c.loop-nth.self (g.H.Host.state c.args.host.now) (g.H.Host.state c.loop-nth.host) c.args.analysis.now c.args.from c.loop-nth.at c.loop-nth._nth base start groups forced begins c.loop-nth.invariant.same w in
    absurd (omega (arith, c.loop-nth-test.false, few))

pub returns-in_err-redo_step-clause-aside : goal.returns-in_err-redo_step-clause-aside
returns-in_err-redo_step-clause-aside g c = λ told f aside. c.in_err-redo_step.ensures.aside told f aside ∙ c.loop-nth.invariant.aside told f aside

pub returns-in-None-clause-aside : goal.returns-in-None-clause-aside
returns-in-None-clause-aside g c = λ told f aside. c.in_ok-redo_step.ensures.aside told f aside ∙ c.loop-nth.invariant.aside told f aside

pub returns-clause-aside : goal.returns-clause-aside
returns-clause-aside g c = c.loop-nth.invariant.aside
