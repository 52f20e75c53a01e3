use Rattle.std.proofs.Common.{sym, arith, map}
use Rattle.std.proofs.lemmas.Result.{err_from_is_err_and}
use Rattle.std.proofs.lemmas.List.{map-append}
use Rattle.aria_model.specs.Grammar.{column, another_column}
use Rattle.aria_statement.specs.Lexing.{left}
use Rattle.aria_statement.specs.Writing.{column_seen}
use Rattle.aria_statement.proofs.Items.{goes_on, is_done, is_refused}
use Rattle.aria_statement.proofs.Shorter.{columns_shorten}
use Rattle.aria_statement.proofs.columns.read_columns.Goals as goal

pub returns-in_err-column : goal.returns-in_err-column
returns-in_err-column c =
    let p = err_from_is_err_and c.from_residual.result c.from_residual.ensures.1 in
    rw (p.1, p.2) (is_refused column another_column (map column_seen c.loop-columns.columns) (left c.args.line.now c.loop-columns.next) _ c.in_err-column.field-0.0 columns_shorten (sym c.in_err-column.ensures) c.loop-columns.invariant)

pub returns-in-None : goal.returns-in-None
returns-in-None c = rw (c.in_ok-push.ensures.ok, map-append) (is_done column another_column (map column_seen c.loop-columns.columns) (left c.args.line.now c.loop-columns.next) _ (column_seen c.in_ok-column.column) (left c.args.line.now c.in_ok-column.behind) columns_shorten (sym c.in_ok-column.ensures) (sym c.in-None.ensures) c.loop-columns.invariant)

pub loop-columns-smaller : goal.loop-columns-smaller
loop-columns-smaller c = omega (arith, columns_shorten.shorter (left c.args.line.now c.loop-columns.next) ((column_seen c.in_ok-column.column), left c.args.line.now c.in_ok-column.behind) (sym c.in_ok-column.ensures), columns_shorten.no_longer (left c.args.line.now c.in_ok-column.behind) (left c.args.line.now c.in-Some.place) (sym c.in-Some.ensures))

pub loop-columns-preserved : goal.loop-columns-preserved
loop-columns-preserved c = rw (c.in_ok-push.ensures.ok, map-append) (goes_on column another_column (map column_seen c.loop-columns.columns) (left c.args.line.now c.loop-columns.next) _ (column_seen c.in_ok-column.column) (left c.args.line.now c.in_ok-column.behind) (left c.args.line.now c.in-Some.place) columns_shorten (sym c.in_ok-column.ensures) (sym c.in-Some.ensures) c.loop-columns.invariant)
