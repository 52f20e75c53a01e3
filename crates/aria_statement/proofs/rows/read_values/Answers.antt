use Rattle.std.proofs.Common.{sym, arith}
use Rattle.std.proofs.lemmas.Result.{err_from_is_err_and}
use Rattle.aria_model.specs.Grammar.{value, behind_comma}
use Rattle.aria_statement.specs.Lexing.{left}
use Rattle.aria_statement.proofs.Items.{goes_on, is_done, is_fault}
use Rattle.aria_statement.proofs.Shorter.{values_shorten}
use Rattle.aria_statement.proofs.rows.read_values.Goals as goal

pub returns-in_err-value : goal.returns-in_err-value
returns-in_err-value c =
    let p = err_from_is_err_and c.from_residual.result c.from_residual.ensures.1 in
    rw (p.1, p.2) (is_fault value behind_comma c.loop-values.values (left c.args.line.now c.loop-values.next) _ c.in_err-value.field-0.0 values_shorten c.in_err-value.ensures c.loop-values.invariant)

pub returns-in-None : goal.returns-in-None
returns-in-None c = rw c.in_ok-push.ensures.ok (is_done value behind_comma c.loop-values.values (left c.args.line.now c.loop-values.next) _ c.in_ok-value.value (left c.args.line.now c.in_ok-value.behind) values_shorten c.in_ok-value.ensures (sym c.in-None.ensures) c.loop-values.invariant)

pub loop-values-smaller : goal.loop-values-smaller
loop-values-smaller c = omega (arith, values_shorten.shorter (left c.args.line.now c.loop-values.next) (c.in_ok-value.value, left c.args.line.now c.in_ok-value.behind) c.in_ok-value.ensures, values_shorten.no_longer (left c.args.line.now c.in_ok-value.behind) (left c.args.line.now c.in-Some.place) (sym c.in-Some.ensures))

pub loop-values-preserved : goal.loop-values-preserved
loop-values-preserved c = rw c.in_ok-push.ensures.ok (goes_on value behind_comma c.loop-values.values (left c.args.line.now c.loop-values.next) _ c.in_ok-value.value (left c.args.line.now c.in_ok-value.behind) (left c.args.line.now c.in-Some.place) values_shorten c.in_ok-value.ensures (sym c.in-Some.ensures) c.loop-values.invariant)
