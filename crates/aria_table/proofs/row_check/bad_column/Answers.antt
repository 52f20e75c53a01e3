use Rattle.std.proofs.Common.{◌≤◌, length, arith, sym, ap, ◌∙◌, ltb-false}
use Rattle.std.specs.Option.{is_some}
use Rattle.aria_table.proofs.Fitting.{none_here, left_over}
use Rattle.aria_table.proofs.row_check.bad_column.Goals as goal

pub returns-in-None : goal.returns-in-None
returns-in-None c =
    let past : length c.args.row.now ≤ c.loop-nth.nth = ltb-false c.loop-nth.nth (length c.args.row.now) (sym c.get.ensures.lookup.0 ∙ ap is_some c.in-None.is) in
    sym (none_here c.args.keyed.now c.loop-nth.nth c.loop-nth.last c.args.columns.now c.args.row.now c.index-columns-nth.result c.loop-nth-test.true past (sym c.index-columns-nth.is))
    ∙ c.loop-nth.invariant.1

pub returns-then-row-columns : goal.returns-then-row-columns
returns-then-row-columns c =
    sym (left_over c.args.keyed.now c.loop-nth.nth c.loop-nth.last c.args.columns.now c.args.row.now c.loop-nth-test.false (omega arith)) ∙ c.loop-nth.invariant.1
