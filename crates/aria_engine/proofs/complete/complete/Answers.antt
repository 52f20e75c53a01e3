use Rattle.std.proofs.lemmas.Result.{err_from_is_err_and}
use Rattle.std.proofs.Common.{Bool, is_ok, sym, ap, subst}
use Rattle.aria_engine.specs.Turns.{with_line, Completes}
use Rattle.aria_engine.proofs.Completing.{not_kept, kept_and_told}
use Rattle.aria_engine.proofs.complete.complete.Goals as goal

pub returns-in_err-keep_if-clause-completes : goal.returns-in_err-keep_if-clause-completes
returns-in_err-keep_if-clause-completes g c = λ told lines is.
    let p = err_from_is_err_and c.from_residual.result c.from_residual.ensures.1 in
    subst (λ (done : Bool). Completes lines (with_line c.args.kept lines c.args.line.now) c.args.text.now c.keep_if.new.log (g.H.Host.state c.args.host.now) (g.H.Host.state c.keep_if.new.host) done) (sym (ap is_ok p.1))
    (not_kept c.keep_if.new.log (g.H.Host.state c.args.host.now) (g.H.Host.state c.keep_if.new.host) lines (with_line c.args.kept lines c.args.line.now) c.args.text.now (c.in_err-keep_if.ensures.moments told lines is))

pub returns-clause-completes : goal.returns-clause-completes
returns-clause-completes g c = λ told lines is.
    kept_and_told c.keep_if.new.log (g.H.Host.state c.args.host.now) (g.H.Host.state c.keep_if.new.host) (g.H.Host.state c.tell.new.self) lines (with_line c.args.kept lines c.args.line.now) c.args.text.now (is_ok c.tell.result)
    (λ f b left. g.met.H.Host.only_now c.keep_if.new.host f b told left)
    (c.in_ok-keep_if.ensures.moments told lines is) (c.in_ok-keep_if.ensures.kept told lines is) (c.tell.ensures.told told)
