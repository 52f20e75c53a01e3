use Rattle.std.proofs.Common.{◌≡◌, ◌∙◌, ◌++◌, true, sym, ap, arith, List, ℕ, [], take, refl, subst, is_ok}
use Rattle.std.proofs.lemmas.List.{append-nil, take_rest}
use Rattle.std.proofs.lemmas.Result.{err_from_is_err_and}
use Rattle.aria_journal.specs.Log.{Adds}
use Rattle.aria_journal.proofs.Appending.{adds_nothing, adds_next, adds_failed, adds_all}
use Rattle.aria_journal.proofs.log.Log.add.Goals as goal

pub loop-at-init : goal.loop-at-init
loop-at-init g c = record {
  bound = omega arith;
  place_is = omega arith;
  used_is = λ some. omega arith;
  adds = λ told base text is.
      let s = g.H.Host.state c.args.host.now in
      let none : text ≡ text ++ [] = sym (append-nil text) in
      subst (λ (l : List ℕ). Adds c.args.self.now s s base l true) none (adds_nothing c.args.self.now s base text (λ f b left. g.met.H.Host.only_now c.args.host.now f b told left) is);
  disk = omega arith;
  tell = refl;
}

pub step-requires-clause-at : goal.step-requires-clause-at
step-requires-clause-at g c = λ told.
    let (base, text, is) = c.requires.at told in
    (base, text ++ take c.loop-at.at c.args.bytes.now, (c.loop-at.invariant.adds told base text is).at refl)

pub returns-in_err-at-clause-added : goal.returns-in_err-at-clause-added
returns-in_err-at-clause-added g c = λ told base text is.
    let p = err_from_is_err_and c.from_residual.result c.from_residual.ensures.1 in
    adds_failed c.loop-at.self c.step.new.self (g.H.Host.state c.args.host.now) (g.H.Host.state c.loop-at.host) (g.H.Host.state c.step.new.host) base text c.args.bytes.now c.loop-at.at _
    (c.loop-at.invariant.adds told base text is)
    (λ now. c.in_err-at.ensures.added told base (text ++ take c.loop-at.at c.args.bytes.now) now)
    (ap is_ok p.1)

pub loop-at-preserved : goal.loop-at-preserved
loop-at-preserved g c = record {
  bound = omega (arith, c.in_ok-at.ensures.ok);
  place_is = omega (arith, c.in_ok-at.ensures.ok, c.loop-at.invariant.place_is);
  used_is = λ some. c.in_ok-at.ensures.ok.3;
  adds = λ told base text is.
      adds_next c.loop-at.self c.step.new.self (g.H.Host.state c.args.host.now) (g.H.Host.state c.loop-at.host) (g.H.Host.state c.step.new.host) base text c.args.bytes.now _ c.loop-at.at c.in_ok-at.field-0 (take_rest c.args.bytes.now c.loop-at.at)
      (c.loop-at.invariant.adds told base text is)
      (λ now. c.in_ok-at.ensures.added told base (text ++ take c.loop-at.at c.args.bytes.now) now);
  disk = c.in_ok-at.ensures.cause.calm ∙ c.loop-at.invariant.disk;
  tell = c.in_ok-at.ensures.cause.tell ∙ c.loop-at.invariant.tell;
}

pub returns-clause-added : goal.returns-clause-added
returns-clause-added g c = λ told base text is.
    adds_all c.loop-at.self (g.H.Host.state c.args.host.now) (g.H.Host.state c.loop-at.host) base text c.args.bytes.now c.loop-at.at (c.loop-at.invariant.adds told base text is) c.loop-at-test.false
