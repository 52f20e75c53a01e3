-- Rows by their keys, over any type of keys: how entries in the keys' order stand to rows in the rows' order.
use Rattle.std.specs.Prelude.{◌≡◌, Bool, true, false, not, ◌&&◌, ◌||◌, cond, List, [], ◌∷◌, ◌++◌, Option, Some, None, refl}
use Rattle.std.specs.List.{filter, list_all, list_any, AllByRecursion}
use Rattle.std.specs.List.Sorted.{IsStrictlySortedBy}
use Rattle.std.specs.Option.{is_some}
use Rattle.std.specs.declared.cmp.Ordering.{Ordering}
use Rattle.std.specs.declared.cmp.Ordering.TheVariants.{Less, Equal, Greater}
use Rattle.std.specs.Ordering.{is_eq, is_lt, is_gt, match_ordering, ordering_reverse}
use Rattle.std.specs.Cmp.{IsTotalOrder, eq_by_cmp_equiv}
use Rattle.std.specs.BTreeMap.{is_at, insert_entry}
use Rattle.std.specs.Map.{keys_of, values_of, lookup, lookup_key, remove_entry}
use Rattle.std.proofs.Common.{sym, ap, ◌∙◌, subst}
use Rattle.std.proofs.lemmas.Bool.{and_parts, and_from}
use Rattle.std.proofs.lemmas.Map.Keys.{sorted_head, sorted_tail}
use Rattle.aria_value.specs.declared.value.Value.{Value}
use Rattle.aria_value.specs.Order.{put, sorted}
use Rattle.aria_memory.specs.Undone.{undone}

-- ---- an entry put in and taken out

remove_absent_step : {K X : Type 0} (e : K × X) (es rest : List (K × X)) (found : Option X) (b : Bool) → (found ≡ None → rest ≡ es) → cond b (Some e.1) found ≡ None → cond b es (e ∷ rest) ≡ e ∷ es
remove_absent_step e es rest found true same none = absurd (cc)
remove_absent_step e es rest found false same none = ap (λ l. e ∷ l) (same none)

-- what a test doesn't find isn't taken out
pub remove_absent : {K X : Type 0} (test : K → Bool) (es : List (K × X)) → lookup test es ≡ None → remove_entry test es ≡ es
remove_absent test [] none = refl
remove_absent test (e ∷ es) none = remove_absent_step e es (remove_entry test es) (lookup test es) (test e.0) (remove_absent test es) none

remove_inserted_step : {K X : Type 0} (cmp : K → K → Ordering) (k : K) (v : X) (e : K × X) (es inserted : List (K × X)) (found : Option X) (r : Ordering)
    → cmp k k ≡ Equal → cmp k e.0 ≡ r → (found ≡ None → remove_entry (is_at (cmp k)) inserted ≡ es) → cond (is_eq r) (Some e.1) found ≡ None
    → remove_entry (is_at (cmp k)) (match_ordering r ((k, v) ∷ e ∷ es) ((e.0, v) ∷ es) (e ∷ inserted)) ≡ e ∷ es
remove_inserted_step cmp k v e es inserted found Less itself at same none = rw itself refl
remove_inserted_step cmp k v e es inserted found Equal itself at same none = absurd (cc)
remove_inserted_step cmp k v e es inserted found Greater itself at same none = rw at (ap (λ l. e ∷ l) (same none))

-- a new entry taken out again leaves what there was
pub remove_inserted : {K X : Type 0} (cmp : K → K → Ordering) (k : K) (v : X) (es : List (K × X)) → cmp k k ≡ Equal → lookup (is_at (cmp k)) es ≡ None
    → remove_entry (is_at (cmp k)) (insert_entry cmp es k v) ≡ es
remove_inserted cmp k v [] itself none = rw itself refl
remove_inserted cmp k v (e ∷ es) itself none =
    remove_inserted_step cmp k v e es (insert_entry cmp es k v) (lookup (is_at (cmp k)) es) (cmp k e.0) itself refl (remove_inserted cmp k v es itself) none

-- the last of the keys is the first that is taken out
pub undone-push : {K X : Type 0} (cmp : K → K → Ordering) (keys : List K) (k : K) (es : List (K × X)) → undone cmp (keys ++ k ∷ []) es ≡ undone cmp keys (remove_entry (is_at (cmp k)) es)
undone-push cmp [] k es = refl
undone-push cmp (key ∷ keys) k es = ap (remove_entry (is_at (cmp key))) (undone-push cmp keys k es)

-- a key that isn't there
pub undone_absent : {K X : Type 0} (cmp : K → K → Ordering) (keys : List K) (k : K) (es : List (K × X)) → lookup (is_at (cmp k)) es ≡ None
    → undone cmp (keys ++ k ∷ []) es ≡ undone cmp keys es
undone_absent cmp keys k es none = undone-push cmp keys k es ∙ ap (undone cmp keys) (remove_absent (is_at (cmp k)) es none)

-- a key that was put last
pub undone_inserted : {K X : Type 0} (cmp : K → K → Ordering) (keys : List K) (k : K) (v : X) (es : List (K × X)) → cmp k k ≡ Equal → lookup (is_at (cmp k)) es ≡ None
    → undone cmp (keys ++ k ∷ []) (insert_entry cmp es k v) ≡ undone cmp keys es
undone_inserted cmp keys k v es itself none = undone-push cmp keys k (insert_entry cmp es k v) ∙ ap (undone cmp keys) (remove_inserted cmp k v es itself none)

-- ---- each row has its key

keyed_insert_step : {K X : Type 0} (has : K × X → Bool) (k : K) (v : X) (e : K × X) (es inserted : List (K × X)) (found : Option X) (r : Ordering)
    → has (k, v) ≡ true → (has e && list_all has es) ≡ true → (found ≡ None → list_all has es ≡ true → list_all has inserted ≡ true) → cond (is_eq r) (Some e.1) found ≡ None
    → list_all has (match_ordering r ((k, v) ∷ e ∷ es) ((e.0, v) ∷ es) (e ∷ inserted)) ≡ true
keyed_insert_step has k v e es inserted found Less new old more none = and_from _ _ new old
keyed_insert_step has k v e es inserted found Equal new old more none = absurd (cc)
keyed_insert_step has k v e es inserted found Greater new old more none =
    let parts : (has e ≡ true) × (list_all has es ≡ true) = and_parts _ _ old in
    and_from _ _ parts.0 (more none parts.1)

-- a test of every entry stays true with one more for which it is
pub keyed_insert : {K X : Type 0} (cmp : K → K → Ordering) (has : K × X → Bool) (k : K) (v : X) (es : List (K × X)) → has (k, v) ≡ true → list_all has es ≡ true
    → lookup (is_at (cmp k)) es ≡ None → list_all has (insert_entry cmp es k v) ≡ true
keyed_insert cmp has k v [] new old none = and_from _ _ new refl
keyed_insert cmp has k v (e ∷ es) new old none =
    keyed_insert_step has k v e es (insert_entry cmp es k v) (lookup (is_at (cmp k)) es) (cmp k e.0) new old (λ n h. keyed_insert cmp has k v es new h n) none

-- ---- an entry taken out

keyed_without_step : {K X : Type 0} (has : K × X → Bool) (e : K × X) (es rest : List (K × X)) (b : Bool) → (has e && list_all has es) ≡ true → (list_all has es ≡ true → list_all has rest ≡ true)
    → list_all has (cond b es (e ∷ rest)) ≡ true
keyed_without_step has e es rest true old less = (and_parts (has e) (list_all has es) old).1
keyed_without_step has e es rest false old less =
    let parts : (has e ≡ true) × (list_all has es ≡ true) = and_parts _ _ old in
    and_from _ _ parts.0 (less parts.1)

-- a test of every entry stays true without one of them
pub keyed_without : {K X : Type 0} (has : K × X → Bool) (test : K → Bool) (es : List (K × X)) → list_all has es ≡ true → list_all has (remove_entry test es) ≡ true
keyed_without has test [] old = refl
keyed_without has test (e ∷ es) old = keyed_without_step has e es (remove_entry test es) (test e.0) old (keyed_without has test es)

some_is : {X : Type 0} (x y : X) → Some x ≡ Some y → x ≡ y
some_is x y same = cc

back_where : {K X : Type 0} (e : K × X) (es : List (K × X)) (k : K) (v : X) → e.0 ≡ k → e.1 ≡ v → (k, v) ∷ es ≡ e ∷ es
back_where e es k v key value = λ i. (sym key i, sym value i) ∷ es

put_first : {K X : Type 0} (cmp : K → K → Ordering) (k : K) (v : X) (es : List (K × X)) → AllByRecursion (λ q. cmp k q ≡ Less) (keys_of es) → insert_entry cmp es k v ≡ (k, v) ∷ es
put_first cmp k v [] above = refl
put_first cmp k v (e ∷ es) above = rw above.0 refl

found_above_step : {K X : Type 0} (P : K → Type 0) (e : K × X) (k : K) (found : Option K) (b : Bool) → P e.0 → (found ≡ Some k → P k) → cond b (Some e.0) found ≡ Some k → P k
found_above_step P e k found true here later is = subst P (some_is e.0 k is) here
found_above_step P e k found false here later is = later is

-- what holds of each key holds of one that is found
found_above : {K X : Type 0} (P : K → Type 0) (test : K → Bool) (k : K) (es : List (K × X)) → AllByRecursion P (keys_of es) → lookup_key test es ≡ Some k → P k
found_above P test k [] all is = absurd (cc)
found_above P test k (e ∷ es) all is = found_above_step P e k (lookup_key test es) (test e.0) all.0 (found_above P test k es all.1) is

back_step : {K X : Type 0} {cmp : K → K → Ordering} (o : IsTotalOrder cmp) (test : K → Bool) (e : K × X) (es : List (K × X)) (k : K) (v : X) (b : Bool)
    → AllByRecursion (λ q. cmp e.0 q ≡ Less) (keys_of es) → (lookup_key test es ≡ Some k → lookup test es ≡ Some v → insert_entry cmp (remove_entry test es) k v ≡ es)
    → cond b (Some e.0) (lookup_key test es) ≡ Some k → cond b (Some e.1) (lookup test es) ≡ Some v → insert_entry cmp (cond b es (e ∷ remove_entry test es)) k v ≡ e ∷ es
back_step {cmp = cmp} o test e es k v true above more key value =
    let same : e.0 ≡ k = some_is e.0 k key in
    put_first cmp k v es (subst (λ x. AllByRecursion (λ q. cmp x q ≡ Less) (keys_of es)) same above) ∙ back_where e es k v same (some_is e.1 v value)
back_step {cmp = cmp} o test e es k v false above more key value =
    let after : cmp k e.0 ≡ Greater = o.antisymm k e.0 ∙ ap ordering_reverse (found_above (λ q. cmp e.0 q ≡ Less) test k es above key) in
    rw after (ap (λ l. e ∷ l) (more key value))

-- an entry that was taken out put back
pub removed_back : {K X : Type 0} {cmp : K → K → Ordering} (o : IsTotalOrder cmp) (test : K → Bool) (es : List (K × X)) (k : K) (v : X) → IsStrictlySortedBy cmp (keys_of es)
    → lookup_key test es ≡ Some k → lookup test es ≡ Some v → insert_entry cmp (remove_entry test es) k v ≡ es
removed_back o test [] k v rises key value = absurd (cc)
removed_back {cmp = cmp} o test (e ∷ es) k v rises key value =
    back_step o test e es k v (test e.0) (sorted_head cmp e.0 (keys_of es) rises) (removed_back o test es k v (sorted_tail cmp e.0 (keys_of es) rises)) key value

-- ---- the rows' order is the keys'

any_step : {X : Type 0} (x : X) (more : Bool) (found : Option X) (a b : Bool) → a ≡ b → more ≡ is_some found → (a || more) ≡ is_some (cond b (Some x) found)
any_step x more found true b same rest = rw (← same) refl
any_step x more found false b same rest = rw (← same) rest

-- none is below a row, and all others are above it
above_step : (order : List Value → List Value → Ordering) (row r : List Value) (rows : List (List Value)) → order r row ≡ Greater
    → (filter (λ x. is_lt (order x row)) rows ≡ []) × (filter (λ x. is_gt (order x row)) rows ≡ rows)
    → (filter (λ x. is_lt (order x row)) (r ∷ rows) ≡ []) × (filter (λ x. is_gt (order x row)) (r ∷ rows) ≡ r ∷ rows)
above_step order row r rows above rest = (rw above rest.0, rw above (ap (λ l. r ∷ l) rest.1))

module _ {K : Type 0} {cmp : K → K → Ordering} (o : IsTotalOrder cmp) (order : List Value → List Value → Ordering) (has : K × List Value → Bool)
    (alike : (a b : K) (r s : List Value) → has (a, r) ≡ true → has (b, s) ≡ true → order r s ≡ cmp a b) where
  -- a row of a key is among the rows exactly if the key is among the keys
  pub any_alike : (k : K) (row : List Value) (es : List (K × List Value)) → has (k, row) ≡ true → list_all has es ≡ true
      → list_any (λ other. is_eq (order other row)) (values_of es) ≡ is_some (lookup (is_at (cmp k)) es)
  any_alike k row [] new old = refl
  any_alike k row (e ∷ es) new old =
      let parts : (has e ≡ true) × (list_all has es ≡ true) = and_parts _ _ old in
      let first : is_eq (order e.1 row) ≡ is_eq (cmp k e.0) = ap is_eq (alike e.0 k e.1 row parts.0 new) ∙ (eq_by_cmp_equiv o).symm e.0 k in
      any_step e.1 (list_any (λ other. is_eq (order other row)) (values_of es)) (lookup (is_at (cmp k)) es) (is_eq (order e.1 row)) (is_eq (cmp k e.0)) first (any_alike k row es new parts.1)

  -- the rows of keys above a row's are those above it
  all_above : (k : K) (row : List Value) (es : List (K × List Value)) → has (k, row) ≡ true → list_all has es ≡ true → AllByRecursion (λ q. cmp k q ≡ Less) (keys_of es)
      → (filter (λ x. is_lt (order x row)) (values_of es) ≡ []) × (filter (λ x. is_gt (order x row)) (values_of es) ≡ values_of es)
  all_above k row [] new old above = (refl, refl)
  all_above k row (e ∷ es) new old above =
      let parts : (has e ≡ true) × (list_all has es ≡ true) = and_parts _ _ old in
      let first : order e.1 row ≡ Greater = alike e.0 k e.1 row parts.0 new ∙ o.antisymm e.0 k ∙ ap ordering_reverse above.0 in
      above_step order row e.1 (values_of es) first (all_above k row es new parts.1 above.1)

  -- what is above a key is above each below it
  above_chain : (k q : K) (ks : List K) → cmp k q ≡ Less → AllByRecursion (λ y. cmp q y ≡ Less) ks → AllByRecursion (λ y. cmp k y ≡ Less) ks
  above_chain k q [] less above = tt
  above_chain k q (x ∷ xs) less above = (o.trans k q x less above.0, above_chain k q xs less above.1)

  put_step : (k : K) (row : List Value) (e : K × List Value) (es inserted : List (K × List Value)) (found : Option (List Value)) (r : Ordering)
      → cmp k e.0 ≡ r → has (k, row) ≡ true → list_all has (e ∷ es) ≡ true → IsStrictlySortedBy cmp (keys_of (e ∷ es))
      → (found ≡ None → values_of inserted ≡ put order row (values_of es)) → cond (is_eq r) (Some e.1) found ≡ None
      → values_of (match_ordering r ((k, row) ∷ e ∷ es) ((e.0, row) ∷ es) (e ∷ inserted)) ≡ put order row (values_of (e ∷ es))
  put_step k row e es inserted found Less at new old rises more none =
      let above = all_above k row (e ∷ es) new old (at, above_chain k e.0 (keys_of es) at (sorted_head cmp e.0 (keys_of es) rises)) in
      ap (λ l. row ∷ l) (sym above.1) ∙ ap (λ l. l ++ row ∷ filter (λ x. is_gt (order x row)) (values_of (e ∷ es))) (sym above.0)
  put_step k row e es inserted found Equal at new old rises more none = absurd (cc)
  put_step k row e es inserted found Greater at new old rises more none =
      let parts : (has e ≡ true) × (list_all has es ≡ true) = and_parts _ _ old in
      let first : order e.1 row ≡ Less = alike e.0 k e.1 row parts.0 new ∙ o.antisymm e.0 k ∙ ap ordering_reverse at in
      rw first (ap (λ l. e.1 ∷ l) (more none))

  -- a new entry's row is put in its place
  pub put_inserted : (k : K) (row : List Value) (es : List (K × List Value)) → has (k, row) ≡ true → list_all has es ≡ true → IsStrictlySortedBy cmp (keys_of es)
      → lookup (is_at (cmp k)) es ≡ None → values_of (insert_entry cmp es k row) ≡ put order row (values_of es)
  put_inserted k row [] new old rises none = refl
  put_inserted k row (e ∷ es) new old rises none =
      let parts : (has e ≡ true) × (list_all has es ≡ true) = and_parts _ _ old in
      put_step k row e es (insert_entry cmp es k row) (lookup (is_at (cmp k)) es) (cmp k e.0) refl new old rises
      (put_inserted k row es new parts.1 (sorted_tail cmp e.0 (keys_of es) rises)) none

  -- rows in the keys' order are in the rows'
  pub sorted_values : (es : List (K × List Value)) → list_all has es ≡ true → IsStrictlySortedBy cmp (keys_of es) → sorted order (values_of es) ≡ values_of es
  sorted_values [] old rises = refl
  sorted_values (e ∷ es) old rises =
      let parts : (has e ≡ true) × (list_all has es ≡ true) = and_parts _ _ old in
      let above = all_above e.0 e.1 es parts.0 parts.1 (sorted_head cmp e.0 (keys_of es) rises) in
      ap (put order e.1) (sorted_values es parts.1 (sorted_tail cmp e.0 (keys_of es) rises))
      ∙ ap (λ l. l ++ e.1 ∷ filter (λ x. is_gt (order x e.1)) (values_of es)) above.0
      ∙ ap (λ l. e.1 ∷ l) above.1

  kept_step : (row r : List Value) (rows : List (List Value)) → order r row ≡ Greater → filter (λ x. not (is_eq (order x row))) rows ≡ rows
      → filter (λ x. not (is_eq (order x row))) (r ∷ rows) ≡ r ∷ rows
  kept_step row r rows above rest = rw above (ap (λ l. r ∷ l) rest)

  -- the rows of keys above a row's are all beside it
  all_beside : (k : K) (row : List Value) (es : List (K × List Value)) → has (k, row) ≡ true → list_all has es ≡ true → AllByRecursion (λ q. cmp k q ≡ Less) (keys_of es)
      → filter (λ x. not (is_eq (order x row))) (values_of es) ≡ values_of es
  all_beside k row [] new old above = refl
  all_beside k row (e ∷ es) new old above =
      let parts : (has e ≡ true) × (list_all has es ≡ true) = and_parts _ _ old in
      let first : order e.1 row ≡ Greater = alike e.0 k e.1 row parts.0 new ∙ o.antisymm e.0 k ∙ ap ordering_reverse above.0 in
      kept_step row e.1 (values_of es) first (all_beside k row es new parts.1 above.1)

  all_alike : (k q : K) (ks : List K) → cmp k q ≡ Equal → AllByRecursion (λ y. cmp q y ≡ Less) ks → AllByRecursion (λ y. cmp k y ≡ Less) ks
  all_alike k q [] same above = tt
  all_alike k q (x ∷ xs) same above = (o.congr k q x same ∙ above.0, all_alike k q xs same above.1)

  beside_step : (k : K) (row : List Value) (e : K × List Value) (es : List (K × List Value)) (r : Ordering) → cmp k e.0 ≡ r → has (k, row) ≡ true → list_all has (e ∷ es) ≡ true
      → IsStrictlySortedBy cmp (keys_of (e ∷ es)) → filter (λ x. not (is_eq (order x row))) (values_of es) ≡ values_of (remove_entry (is_at (cmp k)) es)
      → filter (λ x. not (is_eq (order x row))) (e.1 ∷ values_of es) ≡ values_of (cond (is_eq r) es (e ∷ remove_entry (is_at (cmp k)) es))
  beside_step k row e es Less at new old rises more =
      let parts : (has e ≡ true) × (list_all has es ≡ true) = and_parts _ _ old in
      let first : order e.1 row ≡ Greater = alike e.0 k e.1 row parts.0 new ∙ o.antisymm e.0 k ∙ ap ordering_reverse at in
      rw first (ap (λ l. e.1 ∷ l) more)
  beside_step k row e es Equal at new old rises more =
      let parts : (has e ≡ true) × (list_all has es ≡ true) = and_parts _ _ old in
      let first : order e.1 row ≡ Equal = alike e.0 k e.1 row parts.0 new ∙ o.antisymm e.0 k ∙ ap ordering_reverse at in
      rw first (all_beside k row es new parts.1 (all_alike k e.0 (keys_of es) at (sorted_head cmp e.0 (keys_of es) rises)))
  beside_step k row e es Greater at new old rises more =
      let parts : (has e ≡ true) × (list_all has es ≡ true) = and_parts _ _ old in
      let first : order e.1 row ≡ Less = alike e.0 k e.1 row parts.0 new ∙ o.antisymm e.0 k ∙ ap ordering_reverse at in
      rw first (ap (λ l. e.1 ∷ l) more)

  -- the rows beside one are those of the other keys
  pub beside_removed : (k : K) (row : List Value) (es : List (K × List Value)) → has (k, row) ≡ true → list_all has es ≡ true → IsStrictlySortedBy cmp (keys_of es)
      → filter (λ x. not (is_eq (order x row))) (values_of es) ≡ values_of (remove_entry (is_at (cmp k)) es)
  beside_removed k row [] new old rises = refl
  beside_removed k row (e ∷ es) new old rises =
      let parts : (has e ≡ true) × (list_all has es ≡ true) = and_parts _ _ old in
      beside_step k row e es (cmp k e.0) refl new old rises (beside_removed k row es new parts.1 (sorted_tail cmp e.0 (keys_of es) rises))
