use Rattle.std.proofs.Common.{◌≡◌, arith, sym, ap, drop, lt-ltb, le-ltb}
use Rattle.std.proofs.lemmas.List.{drop_all}
use Rattle.aria_value.specs.Stored.{row_length}
use Rattle.aria_value.proofs.RowChecks.{row_length_next}
use Rattle.aria_value.proofs.row.is_too_long.Goals as goal

pub returns-in-None : goal.returns-in-None
returns-in-None c =
    let next = row_length_next c.args.row.now c.loop-value.value-index c.value-item.result c.loop-value-test.true c.value-item.is in
    sym (lt-ltb 65536 (row_length c.args.row.now) (omega (arith, next, c.loop-value.invariant, c.in-None.ensures)))

pub loop-value-preserved : goal.loop-value-preserved
loop-value-preserved c =
    let next = row_length_next c.args.row.now c.loop-value.value-index c.value-item.result c.loop-value-test.true c.value-item.is in
    omega (arith, next, c.loop-value.invariant, c.in-Some.ensures)

pub returns : goal.returns
returns c =
    let none : row_length (drop c.loop-value.value-index c.args.row.now) ≡ 0 = ap row_length (drop_all c.loop-value.value-index c.args.row.now c.loop-value-test.false) in
    sym (le-ltb 65536 (row_length c.args.row.now) (omega (arith, none, c.loop-value.invariant)))
