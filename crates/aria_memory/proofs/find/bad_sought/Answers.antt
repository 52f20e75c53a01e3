use Rattle.std.proofs.Common.{◌≡◌, ◌+◌, sym, ap, ◌∙◌, drop, [], slice_index_or}
use Rattle.std.specs.Prelude.{Some, true, false, cond}
use Rattle.aria_value.specs.Entry.{has_type}
use Rattle.aria_model.specs.Step.{bad_sought}
use Rattle.aria_memory.proofs.Sought.{bad_sought-last, bad_sought-next, column_within}
use Rattle.aria_memory.proofs.find.bad_sought.Goals as goal

pub loop-nth-init : goal.loop-nth-init
loop-nth-init c =
    bad_sought-last c.args.columns.now (slice_index_or c.args.columns.now (slice_index_or c.args.key.now 0 0) c.index-columns-key.result).name [] c.args.key.now c.args.values.now c.requires.some

pub returns-then-not-is_type_of : goal.returns-then-not-is_type_of
returns-then-not-is_type_of c =
    let columns = c.args.columns.now in
    let key = c.args.key.now in
    let values = c.args.values.now in
    let nth = c.loop-nth.nth in
    let number = c.in-Some.number.now in
    let column = c.index-columns-number.result in
    let value = c.index-values-nth.result in
    let low = c.in-Some.ensures.lookup.3.0 in
    let at = sym c.in-Some.ensures.lookup.1 in
    let refused : has_type column.kind value ≡ false = cc (c.is_type_of.ensures, c.if-not-is_type_of.true) in
    let next = bad_sought-next columns c.loop-nth.last key values nth number value column low c.loop-nth-test.true at (sym c.index-values-nth.is)
    (column_within columns key nth number c.requires.within low at) (sym c.index-columns-number.is) in
    sym (next ∙ ap (λ b. cond b (bad_sought columns column.name (drop (nth + 1) key) (drop (nth + 1) values)) (Some column.name)) refused) ∙ c.loop-nth.invariant

pub loop-nth-preserved : goal.loop-nth-preserved
loop-nth-preserved c =
    let columns = c.args.columns.now in
    let key = c.args.key.now in
    let values = c.args.values.now in
    let nth = c.loop-nth.nth in
    let number = c.in-Some.number.now in
    let column = c.index-columns-number.result in
    let value = c.index-values-nth.result in
    let low = c.in-Some.ensures.lookup.3.0 in
    let at = sym c.in-Some.ensures.lookup.1 in
    let passed : has_type column.kind value ≡ true = cc (c.is_type_of.ensures, c.if-not-is_type_of.false) in
    let next = bad_sought-next columns c.loop-nth.last key values nth number value column low c.loop-nth-test.true at (sym c.index-values-nth.is)
    (column_within columns key nth number c.requires.within low at) (sym c.index-columns-number.is) in
    sym (next ∙ ap (λ b. cond b (bad_sought columns column.name (drop (nth + 1) key) (drop (nth + 1) values)) (Some column.name)) passed) ∙ c.loop-nth.invariant
