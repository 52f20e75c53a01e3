use Rattle.std.proofs.Common.{◌≡◌, ◌∷◌, arith, ap, sym, ◌∙◌, subst, length, List}
use Rattle.std.specs.Prelude.{None, true}
use Rattle.std.proofs.lemmas.Result.{err_from_is_err_and}
use Rattle.std.specs.BTreeMap.{insert_entry, is_at}
use Rattle.std.specs.Map.{values_of, lookup, remove_entry}
use Rattle.std.specs.Vec.Iter.{into_iter_items}
use Rattle.aria_value.specs.declared.value.Value.{Value}
use Rattle.aria_value.specs.Order.{key_columns}
use Rattle.aria_model.specs.Step.{set_refusal}
use Rattle.aria_memory.specs.declared.update.Change.{Change}
use Rattle.aria_memory.specs.declared.update.Done.{Done}
use Rattle.aria_memory.specs.Keyed.{values_cmp, values_in, has_key, are_keyed}
use Rattle.aria_memory.specs.Updated.{put_back, taken_back}
use Rattle.aria_memory.proofs.Entries.{keyed_without}
use Rattle.aria_memory.proofs.Keyed.{are_keyed-insert}
use Rattle.aria_memory.proofs.Changed.{Goes, fresh_beside, goes_next, set_refused, taken_back-push, change_back}
use Rattle.aria_memory.proofs.update.set_rows.Goals as goal

pub returns-in_err-check_change-clause-sets : goal.returns-in_err-check_change-clause-sets
returns-in_err-check_change-clause-sets c =
    let d = c.args.definition.now in
    let es = c.loop-change.rows.entries in
    let start = values_of c.args.rows.now.entries in
    let change = c.in-Some.change in
    let left = into_iter_items c.next.new.self in
    let goes : Goes d c.args.changes.items start (change ∷ left) (values_of es) =
    subst (λ (l : List Change). Goes d c.args.changes.items start l (values_of es)) c.in-Some.ensures.steps.0 c.loop-change.invariant.rest in
    let p = err_from_is_err_and c.from_residual-in_err-check_change.result c.from_residual-in_err-check_change.ensures.1 in
    rw (p.1, p.2) (set_refused d c.args.changes.items start change left es c.in_err-check_change.field-0.0 c.loop-change.invariant.keyed c.loop-change.invariant.ordered
    (sym c.in_err-check_change.ensures) goes)

pub returns-in_err-was-clause-keyed_still : goal.returns-in_err-was-clause-keyed_still
returns-in_err-was-clause-keyed_still c =
    let d = c.args.definition.now in
    ap (are_keyed d) c.in_err-was.ensures.err ∙ keyed_without (has_key d) (is_at (values_cmp c.in-Some.change.key)) c.loop-change.rows.entries c.loop-change.invariant.keyed

pub returns-in_err-push-clause-keyed_still : goal.returns-in_err-push-clause-keyed_still
returns-in_err-push-clause-keyed_still c =
    let d = c.args.definition.now in
    let es = c.loop-change.rows.entries in
    let change = c.in-Some.change in
    let key = c.in_ok-key.key in
    let others = remove_entry (is_at (values_cmp change.key)) es in
    let kept : are_keyed d others ≡ true = keyed_without (has_key d) (is_at (values_cmp change.key)) es c.loop-change.invariant.keyed in
    let at : key ≡ values_in (key_columns d.keys 0) change.row = c.in_ok-key.ensures ∙ (λ i. values_in (c.first_key_columns.ensures i) (c.as_slice.ensures i)) in
    let fits : set_refusal d None 1 (values_of others) change.row ≡ None = sym c.in_ok-check_change.ensures in
    ap (are_keyed d) c.in_ok-was.ensures.entries ∙ are_keyed-insert d others key change.row kept at (fresh_beside d others key change.row kept at fits)

pub loop-change-preserved : goal.loop-change-preserved
loop-change-preserved c =
    let d = c.args.definition.now in
    let es = c.loop-change.rows.entries in
    let new = c.replace.new.rows.entries in
    let start = values_of c.args.rows.now.entries in
    let change = c.in-Some.change in
    let key = c.in_ok-key.key in
    let was = c.in_ok-was.was' in
    let left = into_iter_items c.next.new.self in
    let others = remove_entry (is_at (values_cmp change.key)) es in
    let kept : are_keyed d others ≡ true = keyed_without (has_key d) (is_at (values_cmp change.key)) es c.loop-change.invariant.keyed in
    let at : key ≡ values_in (key_columns d.keys 0) change.row = c.in_ok-key.ensures ∙ (λ i. values_in (c.first_key_columns.ensures i) (c.as_slice.ensures i)) in
    let fits : set_refusal d None 1 (values_of others) change.row ≡ None = sym c.in_ok-check_change.ensures in
    let fresh : lookup (is_at (values_cmp key)) others ≡ None = fresh_beside d others key change.row kept at fits in
    let goes : Goes d c.args.changes.items start (change ∷ left) (values_of es) =
    subst (λ (l : List Change). Goes d c.args.changes.items start l (values_of es)) c.in-Some.ensures.steps.0 c.loop-change.invariant.rest in
    let entries : new ≡ insert_entry values_cmp others key change.row = c.in_ok-was.ensures.entries in
    let step : Done = record { key = c.in_ok-put.put; was = was } in
    record {
      rest = subst (λ (x : List (List Value × List Value)). Goes d c.args.changes.items start left (values_of x)) (sym entries)
          (goes_next d c.args.changes.items start change left es key c.loop-change.invariant.keyed c.loop-change.invariant.ordered c.replace.ensures.without at fits goes);
      keyed = ap (are_keyed d) entries ∙ are_keyed-insert d others key change.row kept at fresh;
      ordered = c.replace.ensures.ordered;
      undo = ap (λ steps. taken_back steps new) c.in_ok-push.ensures.items
          ∙ taken_back-push c.loop-change.done.items step new
          ∙ ap (taken_back c.loop-change.done.items)
          ((λ i. put_back was (remove_entry (is_at (values_cmp (c.in_ok-put.ensures i))) (entries i)))
          ∙ change_back es change.key key change.row was c.loop-change.invariant.ordered c.in_ok-was.ensures.old_key c.in_ok-was.ensures.old_row fresh)
          ∙ c.loop-change.invariant.undo;
      whole = let longer = ap length c.in-Some.ensures.steps.0 in omega (arith, longer, c.in-Some.ensures.steps.1, c.loop-change.invariant.whole);
    }
