use Rattle.std.proofs.Common.{◌≡◌, ◌∷◌, ◌++◌, [], arith, ap, sym, ◌∙◌, length, List}
use Rattle.std.specs.Prelude.{None}
use Rattle.std.specs.BTreeMap.{insert_entry, is_at}
use Rattle.std.specs.Cmp.{tied_itself}
use Rattle.std.specs.Map.{values_of, lookup}
use Rattle.std.specs.Vec.Iter.{into_iter_items}
use Rattle.aria_value.specs.declared.value.Value.{Value}
use Rattle.aria_value.specs.Order.{key_columns}
use Rattle.aria_model.specs.Step.{put_all, row_refusal}
use Rattle.aria_memory.specs.Keyed.{values_cmp, values_in, are_keyed}
use Rattle.aria_memory.specs.Undone.{undone}
use Rattle.aria_memory.proofs.Entries.{undone_absent, undone_inserted}
use Rattle.aria_memory.proofs.Keyed.{values_total, fresh_key, put_all_next, are_keyed-insert}
use Rattle.aria_memory.proofs.insert.put_all.Goals as goal

pub returns-in_err-insert-clause-undo : goal.returns-in_err-insert-clause-undo
returns-in_err-insert-clause-undo c =
    let d = c.args.definition.now in
    let key = c.in_ok-key.key in
    let row = c.in-Some.row in
    let old = c.loop-row.rows.entries in
    let at : key ≡ values_in (key_columns d.keys 0) row = c.in_ok-key.ensures ∙ (λ i. values_in (c.first_key_columns.ensures i) (c.as_slice.ensures i)) in
    let fits : row_refusal d None 1 (values_of old) row ≡ None = sym c.in_ok-check_row.ensures in
    let fresh : lookup (is_at (values_cmp key)) old ≡ None = fresh_key d old key row c.loop-row.invariant.keyed at fits in
    ap (λ keys. undone values_cmp keys c.insert.new.self.entries) (c.in_ok-push.ensures.items ∙ ap (λ (k : List Value). c.loop-row.put.items ++ k ∷ []) c.in_ok-copy.ensures)
    ∙ ap (undone values_cmp (c.loop-row.put.items ++ key ∷ [])) c.in_err-insert.ensures.err
    ∙ undone_absent values_cmp c.loop-row.put.items key old fresh
    ∙ c.loop-row.invariant.undo

pub loop-row-preserved : goal.loop-row-preserved
loop-row-preserved c =
    let d = c.args.definition.now in
    let key = c.in_ok-key.key in
    let row = c.in-Some.row in
    let old = c.loop-row.rows.entries in
    let more = into_iter_items c.next.new.self in
    let at : key ≡ values_in (key_columns d.keys 0) row = c.in_ok-key.ensures ∙ (λ i. values_in (c.first_key_columns.ensures i) (c.as_slice.ensures i)) in
    let fits : row_refusal d None 1 (values_of old) row ≡ None = sym c.in_ok-check_row.ensures in
    let fresh : lookup (is_at (values_cmp key)) old ≡ None = fresh_key d old key row c.loop-row.invariant.keyed at fits in
    let entries : c.insert.new.self.entries ≡ insert_entry values_cmp old key row = c.in_ok-insert.ensures.entries in
    record {
      rest = ap (λ (es : _). put_all d None 1 (values_of es) more) entries
          ∙ put_all_next d old key row more (into_iter_items c.loop-row.row-iterator) (put_all d None 1 (values_of c.args.rows.now.entries) c.args.more.items)
          c.loop-row.invariant.keyed at c.insert.ensures.was_ordered fresh fits c.loop-row.invariant.rest c.in-Some.ensures.steps.0;
      keyed = ap (are_keyed d) entries ∙ are_keyed-insert d old key row c.loop-row.invariant.keyed at fresh;
      undo = ap (λ keys. undone values_cmp keys c.insert.new.self.entries) (c.in_ok-push.ensures.items ∙ ap (λ (k : List Value). c.loop-row.put.items ++ k ∷ []) c.in_ok-copy.ensures)
          ∙ ap (undone values_cmp (c.loop-row.put.items ++ key ∷ [])) entries
          ∙ undone_inserted values_cmp c.loop-row.put.items key row old (tied_itself values_total key) fresh
          ∙ c.loop-row.invariant.undo;
      whole = let longer = ap length c.in-Some.ensures.steps.0 in omega (arith, longer, c.in-Some.ensures.steps.1, c.loop-row.invariant.whole);
    }

pub loop-row-preserved-in_ok-insert : goal.loop-row-preserved-in_ok-insert
loop-row-preserved-in_ok-insert c =
    let d = c.args.definition.now in
    let key = c.in_ok-key.key in
    let row = c.in-Some.row in
    let old = c.loop-row.rows.entries in
    let more = into_iter_items c.next.new.self in
    let at : key ≡ values_in (key_columns d.keys 0) row = c.in_ok-key.ensures ∙ (λ i. values_in (c.first_key_columns.ensures i) (c.as_slice.ensures i)) in
    let fits : row_refusal d None 1 (values_of old) row ≡ None = sym c.in_ok-check_row.ensures in
    let fresh : lookup (is_at (values_cmp key)) old ≡ None = fresh_key d old key row c.loop-row.invariant.keyed at fits in
    let entries : c.insert.new.self.entries ≡ insert_entry values_cmp old key row = c.in_ok-insert.ensures.entries in
    record {
      rest = ap (λ (es : _). put_all d None 1 (values_of es) more) entries
          ∙ put_all_next d old key row more (into_iter_items c.loop-row.row-iterator) (put_all d None 1 (values_of c.args.rows.now.entries) c.args.more.items)
          c.loop-row.invariant.keyed at c.insert.ensures.was_ordered fresh fits c.loop-row.invariant.rest c.in-Some.ensures.steps.0;
      keyed = ap (are_keyed d) entries ∙ are_keyed-insert d old key row c.loop-row.invariant.keyed at fresh;
      undo = ap (λ keys. undone values_cmp keys c.insert.new.self.entries) (c.in_ok-push.ensures.items ∙ ap (λ (k : List Value). c.loop-row.put.items ++ k ∷ []) c.in_ok-copy.ensures)
          ∙ ap (undone values_cmp (c.loop-row.put.items ++ key ∷ [])) entries
          ∙ undone_inserted values_cmp c.loop-row.put.items key row old (tied_itself values_total key) fresh
          ∙ c.loop-row.invariant.undo;
      whole = let longer = ap length c.in-Some.ensures.steps.0 in omega (arith, longer, c.in-Some.ensures.steps.1, c.loop-row.invariant.whole);
    }
