use Rattle.std.proofs.Common.{sym, ap, ◌∙◌, Some}
use Rattle.aria_table.proofs.Refusals.{twice, once}
use Rattle.aria_table.proofs.refusing.unplaced.Goals as goal

pub returns-then-branch-clause-refusal : goal.returns-then-branch-clause-refusal
returns-then-branch-clause-refusal g c = λ told is_row keys content held some count.
    ap Some c.duplicate.ensures
    ∙ sym (twice c.args.definition.now content c.args.entry.now c.in_ok-has_entry.field-0 (c.in_ok-has_entry.ensures.has told is_row keys content held some) c.if-branch.true)

pub returns-clause-refusal : goal.returns-clause-refusal
returns-clause-refusal g c = λ told is_row keys content held some count.
    once c.args.definition.now content c.args.entry.now c.in_ok-has_entry.field-0 c.args.rows c.rows_full.result (c.in_ok-has_entry.ensures.has told is_row keys content held some) c.if-branch.false count c.rows_full.ensures
