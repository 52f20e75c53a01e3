use Rattle.std.proofs.Common.{◌≡◌, ◌++◌, [], ◌∷◌, map, sym, ap, ◌∙◌, Bor, List}
use Rattle.std.specs.Prelude.{true, false, ◌&&◌}
use Rattle.std.specs.List.{filter, take_while}
use Rattle.std.specs.Map.{values_of}
use Rattle.std.specs.Ordering.{is_le}
use Rattle.std.proofs.lemmas.List.{map-append}
use Rattle.aria_value.specs.declared.value.Value.{Value}
use Rattle.aria_value.specs.Order.{key_columns, has_values}
use Rattle.aria_memory.specs.Keyed.{values_cmp}
use Rattle.aria_memory.proofs.Found.{first_run, run_turn, run_stop, run_end, sorted_some}
use Rattle.aria_memory.proofs.find.find_by_first.Goals as goal

pub loop-row-init : goal.loop-row-init
loop-row-init c =
    let d = c.args.definition.now in
    let es = c.args.rows.now.entries in
    let p = has_values (key_columns d.keys 0) c.args.sought.now in
    let rows : c.into_iter-row-iterator.result ≡ filter (λ (e : List Value × List Value). is_le (values_cmp c.args.sought.now e.0) && true) es =
    c.into_iter-row-iterator.ensures.into_iter_gives ∙ c.range-row-items.ensures.between tt
    ∙ ap (λ (from : List Value). filter (λ (e : List Value × List Value). is_le (values_cmp from e.0) && true) es) c.in_ok-least.ensures in
    ap (λ (found : List (Bor (List Value))). map (λ r. r.now) found ++ take_while p (values_of c.into_iter-row-iterator.result)) c.new-found.ensures.items
    ∙ ap (λ (left : List (List Value × List Value)). take_while p (values_of left)) rows
    ∙ first_run d c.args.sought.now es c.requires c.range-row-items.ensures.ordered

pub returns-then-not-has_values-clause-found : goal.returns-then-not-has_values-clause-found
returns-then-not-has_values-clause-found c =
    let d = c.args.definition.now in
    let es = c.args.rows.now.entries in
    let p = has_values (key_columns d.keys 0) c.args.sought.now in
    let not_so : p c.in-Some.row.now ≡ false = cc (c.has_values.ensures, c.if-not-has_values.true, c.first_key_columns-columns.ensures, c.as_slice.ensures) in
    run_stop p (map (λ r. r.now) c.loop-row.found.items) c.in-Some.field-0-0.now c.in-Some.row.now c.loop-row.row-iterator c.next.new.self (filter p (values_of es))
    c.in-Some.ensures.steps not_so c.loop-row.invariant
    ∙ sym (sorted_some d p es c.requires c.range-row-items.ensures.ordered)

pub loop-row-preserved : goal.loop-row-preserved
loop-row-preserved c =
    let d = c.args.definition.now in
    let es = c.args.rows.now.entries in
    let p = has_values (key_columns d.keys 0) c.args.sought.now in
    let so : p c.in-Some.row.now ≡ true = cc (c.has_values.ensures, c.if-not-has_values.false, c.first_key_columns-columns.ensures, c.as_slice.ensures) in
    let front = map (λ (r : Bor (List Value)). r.now) c.loop-row.found.items in
    let rows = values_of c.next.new.self in
    ap (λ (found : List (Bor (List Value))). map (λ r. r.now) found ++ take_while p rows) c.in_ok-push.ensures.items
    ∙ ap (λ (found : List (List Value)). found ++ take_while p rows) (map-append (λ (r : Bor (List Value)). r.now) c.loop-row.found.items (c.in-Some.row ∷ []))
    ∙ run_turn p front c.in-Some.field-0-0.now c.in-Some.row.now c.loop-row.row-iterator c.next.new.self (filter p (values_of es))
    c.in-Some.ensures.steps so c.loop-row.invariant

pub returns-clause-found : goal.returns-clause-found
returns-clause-found c =
    let d = c.args.definition.now in
    let es = c.args.rows.now.entries in
    let p = has_values (key_columns d.keys 0) c.args.sought.now in
    run_end p (map (λ r. r.now) c.loop-row.found.items) c.loop-row.row-iterator (filter p (values_of es)) c.in-None.ensures.steps.0 c.loop-row.invariant
    ∙ sym (sorted_some d p es c.requires c.range-row-items.ensures.ordered)
