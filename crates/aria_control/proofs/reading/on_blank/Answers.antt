use Rattle.std.proofs.Common.{inr, refl}
use Rattle.aria_control.proofs.Others.{other_found, no_other_found}
use Rattle.aria_control.proofs.reading.on_blank.Goals as goal

pub returns-then-has_others-clause-found : goal.returns-then-has_others-clause-found
returns-then-has_others-clause-found g c = λ told. inr (
  refl,
  other_found (g.H.Host.state c.args.host.now).folder c.in_ok-names.names c.as_slice.result.now c.has_others.result (c.in_ok-names.ensures.names told) c.in_ok-names.ensures.forms c.as_slice.ensures c.has_others.ensures c.if-has_others.true,
)

pub returns-clause-found : goal.returns-clause-found
returns-clause-found g c = λ told. inr (
    no_other_found (g.H.Host.state c.args.host.now).folder c.in_ok-names.names c.as_slice.result.now c.has_others.result (c.in_ok-names.ensures.names told) c.as_slice.ensures c.has_others.ensures c.if-has_others.false
    )
