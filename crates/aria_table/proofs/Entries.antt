-- Entries in order: one put and taken, one taken and put back. (The first and the last law are those of aria_memory.)
use Rattle.std.specs.Prelude.{◌≡◌, Bool, true, false, cond, List, [], ◌∷◌, Option, Some, None, refl}
use Rattle.std.specs.List.{AllByRecursion}
use Rattle.std.specs.List.Sorted.{IsStrictlySortedBy}
use Rattle.std.specs.declared.cmp.Ordering.{Ordering}
use Rattle.std.specs.declared.cmp.Ordering.TheVariants.{Less, Equal, Greater}
use Rattle.std.specs.Ordering.{is_eq, match_ordering, ordering_reverse}
use Rattle.std.specs.Cmp.{IsTotalOrder}
use Rattle.std.specs.BTreeMap.{is_at, insert_entry}
use Rattle.std.specs.Map.{keys_of, lookup, lookup_key, remove_entry}
use Rattle.std.proofs.Common.{sym, ap, ◌∙◌, subst}
use Rattle.std.proofs.lemmas.Map.Keys.{sorted_head, sorted_tail}

remove_inserted_step : {K X : Type 0} (cmp : K → K → Ordering) (k : K) (v : X) (e : K × X) (es inserted : List (K × X)) (found : Option X) (r : Ordering)
    → cmp k k ≡ Equal → cmp k e.0 ≡ r → (found ≡ None → remove_entry (is_at (cmp k)) inserted ≡ es) → cond (is_eq r) (Some e.1) found ≡ None
    → remove_entry (is_at (cmp k)) (match_ordering r ((k, v) ∷ e ∷ es) ((e.0, v) ∷ es) (e ∷ inserted)) ≡ e ∷ es
remove_inserted_step cmp k v e es inserted found Less itself at same none = rw itself refl
remove_inserted_step cmp k v e es inserted found Equal itself at same none = absurd (cc)
remove_inserted_step cmp k v e es inserted found Greater itself at same none = rw at (ap (λ l. e ∷ l) (same none))

-- a new entry taken out again leaves what there was
pub remove_inserted : {K X : Type 0} (cmp : K → K → Ordering) (k : K) (v : X) (es : List (K × X)) → cmp k k ≡ Equal → lookup (is_at (cmp k)) es ≡ None
    → remove_entry (is_at (cmp k)) (insert_entry cmp es k v) ≡ es
remove_inserted cmp k v [] itself none = rw itself refl
remove_inserted cmp k v (e ∷ es) itself none =
    remove_inserted_step cmp k v e es (insert_entry cmp es k v) (lookup (is_at (cmp k)) es) (cmp k e.0) itself refl (remove_inserted cmp k v es itself) none

some_is : {X : Type 0} (x y : X) → Some x ≡ Some y → x ≡ y
some_is x y same = cc

back_where : {K X : Type 0} (e : K × X) (es : List (K × X)) (k : K) (v : X) → e.0 ≡ k → e.1 ≡ v → (k, v) ∷ es ≡ e ∷ es
back_where e es k v key value = λ i. (sym key i, sym value i) ∷ es

put_first : {K X : Type 0} (cmp : K → K → Ordering) (k : K) (v : X) (es : List (K × X)) → AllByRecursion (λ q. cmp k q ≡ Less) (keys_of es) → insert_entry cmp es k v ≡ (k, v) ∷ es
put_first cmp k v [] above = refl
put_first cmp k v (e ∷ es) above = rw above.0 refl

found_above_step : {K X : Type 0} (P : K → Type 0) (e : K × X) (k : K) (found : Option K) (b : Bool) → P e.0 → (found ≡ Some k → P k) → cond b (Some e.0) found ≡ Some k → P k
found_above_step P e k found true here later is = subst P (some_is e.0 k is) here
found_above_step P e k found false here later is = later is

-- what holds of each key holds of one that is found
found_above : {K X : Type 0} (P : K → Type 0) (test : K → Bool) (k : K) (es : List (K × X)) → AllByRecursion P (keys_of es) → lookup_key test es ≡ Some k → P k
found_above P test k [] all is = absurd (cc)
found_above P test k (e ∷ es) all is = found_above_step P e k (lookup_key test es) (test e.0) all.0 (found_above P test k es all.1) is

back_step : {K X : Type 0} {cmp : K → K → Ordering} (o : IsTotalOrder cmp) (test : K → Bool) (e : K × X) (es : List (K × X)) (k : K) (v : X) (b : Bool)
    → AllByRecursion (λ q. cmp e.0 q ≡ Less) (keys_of es) → (lookup_key test es ≡ Some k → lookup test es ≡ Some v → insert_entry cmp (remove_entry test es) k v ≡ es)
    → cond b (Some e.0) (lookup_key test es) ≡ Some k → cond b (Some e.1) (lookup test es) ≡ Some v → insert_entry cmp (cond b es (e ∷ remove_entry test es)) k v ≡ e ∷ es
back_step {cmp = cmp} o test e es k v true above more key value =
    let same : e.0 ≡ k = some_is e.0 k key in
    put_first cmp k v es (subst (λ x. AllByRecursion (λ q. cmp x q ≡ Less) (keys_of es)) same above) ∙ back_where e es k v same (some_is e.1 v value)
back_step {cmp = cmp} o test e es k v false above more key value =
    let after : cmp k e.0 ≡ Greater = o.antisymm k e.0 ∙ ap ordering_reverse (found_above (λ q. cmp e.0 q ≡ Less) test k es above key) in
    rw after (ap (λ l. e ∷ l) (more key value))

-- an entry that was taken out put back
pub removed_back : {K X : Type 0} {cmp : K → K → Ordering} (o : IsTotalOrder cmp) (test : K → Bool) (es : List (K × X)) (k : K) (v : X) → IsStrictlySortedBy cmp (keys_of es)
    → lookup_key test es ≡ Some k → lookup test es ≡ Some v → insert_entry cmp (remove_entry test es) k v ≡ es
removed_back o test [] k v rises key value = absurd (cc)
removed_back {cmp = cmp} o test (e ∷ es) k v rises key value =
    back_step o test e es k v (test e.0) (sorted_head cmp e.0 (keys_of es) rises) (removed_back o test es k v (sorted_tail cmp e.0 (keys_of es) rises)) key value

module _ {K X : Type 0} {cmp : K → K → Ordering} (exact : (a b : K) → cmp a b ≡ Equal → a ≡ b) where
  found_step : (k : K) (v : X) (e : K × X) (es : List (K × X)) (r : Ordering) → cmp k e.0 ≡ r → (lookup (is_at (cmp k)) es ≡ Some v → lookup_key (is_at (cmp k)) es ≡ Some k)
      → cond (is_eq r) (Some e.1) (lookup (is_at (cmp k)) es) ≡ Some v → cond (is_eq r) (Some e.0) (lookup_key (is_at (cmp k)) es) ≡ Some k
  found_step k v e es Less at more is = more is
  found_step k v e es Equal at more is = ap Some (sym (exact k e.0 at))
  found_step k v e es Greater at more is = more is

  key_found : (k : K) (v : X) (es : List (K × X)) → lookup (is_at (cmp k)) es ≡ Some v → lookup_key (is_at (cmp k)) es ≡ Some k
  key_found k v [] is = absurd (cc)
  key_found k v (e ∷ es) is = found_step k v e es (cmp k e.0) refl (key_found k v es) is

  -- an entry that was taken out put back
  pub taken_back : (o : IsTotalOrder cmp) (k : K) (v : X) (es : List (K × X)) → IsStrictlySortedBy cmp (keys_of es) → lookup (is_at (cmp k)) es ≡ Some v
      → insert_entry cmp (remove_entry (is_at (cmp k)) es) k v ≡ es
  taken_back o k v es rises is = removed_back o (is_at (cmp k)) es k v rises (key_found k v es is) is

inserted_found_step : {K X : Type 0} (cmp : K → K → Ordering) (k : K) (v : X) (e : K × X) (es inserted : List (K × X)) (found : Option X) (r : Ordering) → cmp k k ≡ Equal → cmp k e.0 ≡ r
    → (found ≡ None → lookup (is_at (cmp k)) inserted ≡ Some v) → cond (is_eq r) (Some e.1) found ≡ None
    → lookup (is_at (cmp k)) (match_ordering r ((k, v) ∷ e ∷ es) ((e.0, v) ∷ es) (e ∷ inserted)) ≡ Some v
inserted_found_step cmp k v e es inserted found Less itself at same none = rw itself refl
inserted_found_step cmp k v e es inserted found Equal itself at same none = absurd (cc)
inserted_found_step cmp k v e es inserted found Greater itself at same none = rw at (same none)

-- a new entry is found
pub inserted_found : {K X : Type 0} (cmp : K → K → Ordering) (k : K) (v : X) (es : List (K × X)) → cmp k k ≡ Equal → lookup (is_at (cmp k)) es ≡ None
    → lookup (is_at (cmp k)) (insert_entry cmp es k v) ≡ Some v
inserted_found cmp k v [] itself none = rw itself refl
inserted_found cmp k v (e ∷ es) itself none =
    inserted_found_step cmp k v e es (insert_entry cmp es k v) (lookup (is_at (cmp k)) es) (cmp k e.0) itself refl (inserted_found cmp k v es itself) none

-- what stands above a key isn't found at it
absent_above : {K X : Type 0} {cmp : K → K → Ordering} (o : IsTotalOrder cmp) (k : K) (es : List (K × X)) → AllByRecursion (λ q. cmp k q ≡ Less) (keys_of es) → lookup (is_at (cmp k)) es ≡ None
absent_above o k [] above = refl
absent_above o k (e ∷ es) above = rw above.0 (absent_above o k es above.1)

gone_step : {K X : Type 0} {cmp : K → K → Ordering} (o : IsTotalOrder cmp) (exact : (a b : K) → cmp a b ≡ Equal → a ≡ b) (k : K) (e : K × X) (es : List (K × X)) (r : Ordering) → cmp k e.0 ≡ r
    → AllByRecursion (λ q. cmp e.0 q ≡ Less) (keys_of es) → lookup (is_at (cmp k)) (remove_entry (is_at (cmp k)) es) ≡ None
    → lookup (is_at (cmp k)) (cond (is_eq r) es (e ∷ remove_entry (is_at (cmp k)) es)) ≡ None
gone_step o exact k e es Less at above more = rw at more
gone_step {cmp = cmp} o exact k e es Equal at above more = absent_above o k es (subst (λ x. AllByRecursion (λ q. cmp x q ≡ Less) (keys_of es)) (sym (exact k e.0 at)) above)
gone_step o exact k e es Greater at above more = rw at more

-- an entry that was taken out isn't there any more
gone : {K X : Type 0} {cmp : K → K → Ordering} (o : IsTotalOrder cmp) (exact : (a b : K) → cmp a b ≡ Equal → a ≡ b) (k : K) (es : List (K × X)) → IsStrictlySortedBy cmp (keys_of es)
    → lookup (is_at (cmp k)) (remove_entry (is_at (cmp k)) es) ≡ None
gone o exact k [] rises = refl
gone {cmp = cmp} o exact k (e ∷ es) rises =
    gone_step o exact k e es (cmp k e.0) refl (sorted_head cmp e.0 (keys_of es) rises) (gone o exact k es (sorted_tail cmp e.0 (keys_of es) rises))

pub taken_gone : {K X : Type 0} {cmp : K → K → Ordering} (exact : (a b : K) → cmp a b ≡ Equal → a ≡ b) (o : IsTotalOrder cmp) (k : K) (v : X) (es : List (K × X)) → IsStrictlySortedBy cmp (keys_of es)
    → lookup (is_at (cmp k)) es ≡ Some v → lookup (is_at (cmp k)) (remove_entry (is_at (cmp k)) es) ≡ None
taken_gone exact o k v es rises there = gone o exact k es rises
