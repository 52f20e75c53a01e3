use Rattle.std.proofs.Common.{sym, arith}
use Rattle.std.proofs.lemmas.Result.{err_from_is_err_and}
use Rattle.aria_model.specs.Grammar.{row, another_row}
use Rattle.aria_statement.specs.Lexing.{left}
use Rattle.aria_statement.proofs.Items.{goes_on, is_done, is_fault}
use Rattle.aria_statement.proofs.Shorter.{rows_shorten}
use Rattle.aria_statement.proofs.rows.read_rows.Goals as goal

pub returns-in_err-row : goal.returns-in_err-row
returns-in_err-row c =
    let p = err_from_is_err_and c.from_residual.result c.from_residual.ensures.1 in
    rw (p.1, p.2) (is_fault row another_row c.loop-rows.rows (left c.args.line.now c.loop-rows.next) _ c.in_err-row.field-0.0 rows_shorten c.in_err-row.ensures c.loop-rows.invariant)

pub returns-in-None : goal.returns-in-None
returns-in-None c = rw c.in_ok-push.ensures.ok (is_done row another_row c.loop-rows.rows (left c.args.line.now c.loop-rows.next) _ c.in_ok-row.row (left c.args.line.now c.in_ok-row.behind) rows_shorten c.in_ok-row.ensures (sym c.in-None.ensures) c.loop-rows.invariant)

pub loop-rows-smaller : goal.loop-rows-smaller
loop-rows-smaller c = omega (arith, rows_shorten.shorter (left c.args.line.now c.loop-rows.next) (c.in_ok-row.row, left c.args.line.now c.in_ok-row.behind) c.in_ok-row.ensures, rows_shorten.no_longer (left c.args.line.now c.in_ok-row.behind) (left c.args.line.now c.in-Some.place) (sym c.in-Some.ensures))

pub loop-rows-preserved : goal.loop-rows-preserved
loop-rows-preserved c = rw c.in_ok-push.ensures.ok (goes_on row another_row c.loop-rows.rows (left c.args.line.now c.loop-rows.next) _ c.in_ok-row.row (left c.args.line.now c.in_ok-row.behind) (left c.args.line.now c.in-Some.place) rows_shorten c.in_ok-row.ensures (sym c.in-Some.ensures) c.loop-rows.invariant)
