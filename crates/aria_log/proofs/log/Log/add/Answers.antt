use Rattle.std.proofs.Common.{◌∙◌, ◌++◌, sym, arith, List, ℕ, take, refl, subst}
use Rattle.std.proofs.lemmas.List.{append-nil, take_rest}
use Rattle.aria_log.specs.Log.{IsAt}
use Rattle.aria_log.proofs.Appending.{first_moments, next_at, next_moments, all_at}
use Rattle.aria_log.proofs.log.Log.add.Goals as goal

pub loop-at-init : goal.loop-at-init
loop-at-init g c = record {
  bound = omega arith;
  place_is = omega arith;
  used_is = λ some. omega arith;
  first_is = refl;
  is_at = λ told base whole text is. subst (λ (l : List ℕ). IsAt c.args.self.now (g.H.Host.state c.args.host.now) base whole l) (sym (append-nil text)) is;
  keeps = λ told base whole text is.
      first_moments c.args.self.now (g.H.Host.state c.args.host.now) base whole text c.args.bytes.now (λ f b left. g.met.H.Host.only_now c.args.host.now f b told left) c.requires.some is;
  disk = omega arith;
  tell = refl;
}

pub step-requires-clause-at : goal.step-requires-clause-at
step-requires-clause-at g c = λ told.
    let (base, whole, text, is) = c.requires.at told in
    (base, whole, text ++ take c.loop-at.at c.args.bytes.now, c.loop-at.invariant.is_at told base whole text is)

pub returns-in_err-at-clause-moments : goal.returns-in_err-at-clause-moments
returns-in_err-at-clause-moments g c = λ told base whole text is.
    next_moments (g.H.Host.state c.args.host.now) (g.H.Host.state c.loop-at.host) (g.H.Host.state c.step.new.host) base whole text c.args.bytes.now c.loop-at.at c.loop-at-test.true
    (c.loop-at.invariant.keeps told base whole text is)
    (c.in_err-at.ensures.moments told base whole (text ++ take c.loop-at.at c.args.bytes.now) (c.loop-at.invariant.is_at told base whole text is))

pub loop-at-preserved : goal.loop-at-preserved
loop-at-preserved g c = record {
  bound = omega (arith, c.in_ok-at.ensures.ok);
  place_is = omega (arith, c.in_ok-at.ensures.ok, c.loop-at.invariant.place_is);
  used_is = λ some. c.in_ok-at.ensures.ok.3;
  first_is = c.in_ok-at.ensures.first ∙ c.loop-at.invariant.first_is;
  is_at = λ told base whole text is.
      next_at c.step.new.self (g.H.Host.state c.step.new.host) base whole text c.args.bytes.now _ c.loop-at.at c.in_ok-at.field-0 (take_rest c.args.bytes.now c.loop-at.at)
      (c.in_ok-at.ensures.added told base whole (text ++ take c.loop-at.at c.args.bytes.now) (c.loop-at.invariant.is_at told base whole text is));
  keeps = λ told base whole text is.
      next_moments (g.H.Host.state c.args.host.now) (g.H.Host.state c.loop-at.host) (g.H.Host.state c.step.new.host) base whole text c.args.bytes.now c.loop-at.at c.loop-at-test.true
      (c.loop-at.invariant.keeps told base whole text is)
      (c.in_ok-at.ensures.moments told base whole (text ++ take c.loop-at.at c.args.bytes.now) (c.loop-at.invariant.is_at told base whole text is));
  disk = c.in_ok-at.ensures.cause.calm ∙ c.loop-at.invariant.disk;
  tell = c.in_ok-at.ensures.cause.tell ∙ c.loop-at.invariant.tell;
}

pub returns-clause-added : goal.returns-clause-added
returns-clause-added g c = λ told base whole text is.
    all_at c.loop-at.self (g.H.Host.state c.loop-at.host) base whole text c.args.bytes.now c.loop-at.at c.loop-at-test.false (c.loop-at.invariant.is_at told base whole text is)

pub returns-clause-moments : goal.returns-clause-moments
returns-clause-moments g c = λ told base whole text is. c.loop-at.invariant.keeps told base whole text is
