use Rattle.std.proofs.Common.{sym, arith}
use Rattle.std.proofs.lemmas.Result.{err_from_is_err_and}
use Rattle.aria_model.specs.Grammar.{name, behind_comma}
use Rattle.aria_statement.specs.Lexing.{left}
use Rattle.aria_statement.proofs.Items.{goes_on, is_done, is_refused}
use Rattle.aria_statement.proofs.Shorter.{names_shorten}
use Rattle.aria_statement.proofs.columns.read_names.Goals as goal

pub returns-in_err-name : goal.returns-in_err-name
returns-in_err-name c =
    let p = err_from_is_err_and c.from_residual.result c.from_residual.ensures.1 in
    rw (p.1, p.2) (is_refused name behind_comma c.loop-names.names (left c.args.line.now c.loop-names.next) _ c.in_err-name.field-0.0 names_shorten (sym c.in_err-name.ensures) c.loop-names.invariant)

pub returns-in-None : goal.returns-in-None
returns-in-None c = rw c.in_ok-push.ensures.ok (is_done name behind_comma c.loop-names.names (left c.args.line.now c.loop-names.next) _ c.in_ok-name.name (left c.args.line.now c.in_ok-name.behind) names_shorten (sym c.in_ok-name.ensures) (sym c.in-None.ensures) c.loop-names.invariant)

pub loop-names-smaller : goal.loop-names-smaller
loop-names-smaller c = omega (arith, names_shorten.shorter (left c.args.line.now c.loop-names.next) (c.in_ok-name.name, left c.args.line.now c.in_ok-name.behind) (sym c.in_ok-name.ensures), names_shorten.no_longer (left c.args.line.now c.in_ok-name.behind) (left c.args.line.now c.in-Some.place) (sym c.in-Some.ensures))

pub loop-names-preserved : goal.loop-names-preserved
loop-names-preserved c = rw c.in_ok-push.ensures.ok (goes_on name behind_comma c.loop-names.names (left c.args.line.now c.loop-names.next) _ c.in_ok-name.name (left c.args.line.now c.in_ok-name.behind) (left c.args.line.now c.in-Some.place) names_shorten (sym c.in_ok-name.ensures) (sym c.in-Some.ensures) c.loop-names.invariant)
