-- A table without the rows that a statement concerns.
use Rattle.std.specs.Prelude.{◌≡◌, ℕ, zero, suc, Bool, true, false, not, ◌||◌, cond, List, [], ◌∷◌, ◌++◌, map, length, refl}
use Rattle.std.specs.List.{filter, list_all, list_any, AllByRecursion}
use Rattle.std.specs.List.Sorted.{IsStrictlySortedBy}
use Rattle.std.specs.declared.cmp.Ordering.{Ordering}
use Rattle.std.specs.declared.cmp.Ordering.TheVariants.{Less, Equal, Greater}
use Rattle.std.specs.Ordering.{is_eq, is_lt, is_gt, ordering_reverse}
use Rattle.std.specs.Cmp.{IsTotalOrder, Equal-is}
use Rattle.std.specs.BTreeMap.{is_at}
use Rattle.std.specs.Map.{keys_of, values_of, remove_entry}
use Rattle.std.proofs.Common.{sym, ap, ◌∙◌, arith}
use Rattle.std.proofs.lemmas.Bool.{and_parts}
use Rattle.std.proofs.lemmas.List.Folds.{list_any-append}
use Rattle.std.proofs.lemmas.Map.Keys.{sorted_head, sorted_tail}
use Rattle.aria_value.specs.declared.value.Value.{Value}
use Rattle.aria_value.specs.declared.definition.Definition.{Definition}
use Rattle.aria_value.specs.Order.{value_cmp, value_at, columns_cmp, key_columns, key_cmp, sorted, has_values}
use Rattle.aria_model.specs.Step.{others}
use Rattle.aria_memory.specs.Keyed.{values_cmp, values_in, has_key}
use Rattle.aria_memory.specs.Without.{without}
use Rattle.aria_memory.specs.Seeking.{concerned_keys}
use Rattle.aria_memory.proofs.Keyed.{values_total, columns_values}
use Rattle.aria_memory.proofs.Found.{exact_values, key_is, both_tied, tied_key, values_of-filter, list_all-filter}

-- ---- entries taken out one by one

filter_all : {X : Type 0} (p : X → Bool) (xs : List X) → AllByRecursion (λ x. p x ≡ true) xs → filter p xs ≡ xs
filter_all p [] all = refl
filter_all p (x ∷ xs) all = ap (λ b. cond b (x ∷ filter p xs) (filter p xs)) all.0 ∙ ap (λ rest. x ∷ rest) (filter_all p xs all.1)

-- a key that is tied with one below all these is at none of them
none_at : {K X : Type 0} {cmp : K → K → Ordering} (o : IsTotalOrder cmp) (k q : K) (es : List (K × X)) → cmp k q ≡ Equal → AllByRecursion (λ y. cmp q y ≡ Less) (keys_of es)
    → AllByRecursion (λ e. not (is_at (cmp k) e.0) ≡ true) es
none_at o k q [] tied above = tt
none_at o k q (e ∷ es) tied above = (ap (λ r. not (is_eq r)) (o.congr k q e.0 tied ∙ above.0), none_at o k q es tied above.1)

remove_step : {K X : Type 0} {cmp : K → K → Ordering} (o : IsTotalOrder cmp) (k : K) (e : K × X) (es : List (K × X)) (b : Bool) → is_eq (cmp k e.0) ≡ b
    → AllByRecursion (λ y. cmp e.0 y ≡ Less) (keys_of es) → remove_entry (is_at (cmp k)) es ≡ filter (λ x. not (is_at (cmp k) x.0)) es
    → cond b es (e ∷ remove_entry (is_at (cmp k)) es) ≡ cond (not b) (e ∷ filter (λ x. not (is_at (cmp k) x.0)) es) (filter (λ x. not (is_at (cmp k) x.0)) es)
remove_step {cmp = cmp} o k e es true at above rest =
    sym (filter_all (λ x. not (is_at (cmp k) x.0)) es (none_at o k e.0 es ((Equal-is (cmp k e.0)).0 at) above))
remove_step o k e es false at above rest = ap (λ xs. e ∷ xs) rest

-- the entry of a key taken out of entries in their keys' order
remove_is : {K X : Type 0} {cmp : K → K → Ordering} (o : IsTotalOrder cmp) (k : K) (es : List (K × X)) → IsStrictlySortedBy cmp (keys_of es)
    → remove_entry (is_at (cmp k)) es ≡ filter (λ e. not (is_at (cmp k) e.0)) es
remove_is o k [] rises = refl
remove_is {cmp = cmp} o k (e ∷ es) rises =
    remove_step o k e es (is_eq (cmp k e.0)) refl (sorted_head cmp e.0 (keys_of es) rises) (remove_is o k es (sorted_tail cmp e.0 (keys_of es) rises))

split_step : {X : Type 0} (b : X → Bool) (x : X) (both rest : List X) (here there : Bool) → b x ≡ there → both ≡ filter (λ y. not (b y)) rest
    → cond (not (here || there)) (x ∷ both) both ≡ filter (λ y. not (b y)) (cond (not here) (x ∷ rest) rest)
split_step b x both rest true there at same = same
split_step b x both rest false true at same = same ∙ ap (λ t. cond (not t) (x ∷ filter (λ y. not (b y)) rest) (filter (λ y. not (b y)) rest)) (sym at)
split_step b x both rest false false at same = ap (λ xs. x ∷ xs) same ∙ ap (λ t. cond (not t) (x ∷ filter (λ y. not (b y)) rest) (filter (λ y. not (b y)) rest)) (sym at)

filter_split : {X : Type 0} (a b : X → Bool) (xs : List X) → filter (λ x. not (a x || b x)) xs ≡ filter (λ x. not (b x)) (filter (λ x. not (a x)) xs)
filter_split a b [] = refl
filter_split a b (x ∷ xs) = split_step b x (filter (λ y. not (a y || b y)) xs) (filter (λ y. not (a y)) xs) (a x) (b x) refl (filter_split a b xs)

-- entries without a key and others
pub without-cons : {K X : Type 0} {cmp : K → K → Ordering} (o : IsTotalOrder cmp) (k : K) (ks : List K) (es : List (K × X)) → IsStrictlySortedBy cmp (keys_of es)
    → without cmp ks (remove_entry (is_at (cmp k)) es) ≡ without cmp (k ∷ ks) es
without-cons {cmp = cmp} o k ks es rises =
    ap (without cmp ks) (remove_is o k es rises) ∙ sym (filter_split (λ e. is_at (cmp k) e.0) (λ e. list_any (λ key. is_at (cmp key) e.0) ks) es)

keep_all : {X : Type 0} (xs : List X) → filter (λ x. true) xs ≡ xs
keep_all [] = refl
keep_all (x ∷ xs) = ap (λ rest. x ∷ rest) (keep_all xs)

-- entries without no keys
pub without-none : {K X : Type 0} (cmp : K → K → Ordering) (keys : List K) (es : List (K × X)) → length keys ≡ 0 → without cmp keys es ≡ es
without-none cmp [] es none = keep_all es
without-none cmp (k ∷ ks) es none = absurd (omega arith)

-- ---- what is found in rows in some order

or_less : (a l m g any : Bool) → (l || (m || g)) ≡ (m || any) → ((a || l) || (m || g)) ≡ (m || (a || any))
or_less true l true g any same = refl
or_less true l false g any same = refl
or_less false l m g any same = same

or_equal : (a l m g any : Bool) → a ≡ m → (l || (m || g)) ≡ (m || any) → (l || (m || g)) ≡ (m || (a || any))
or_equal a l true g any tied same = same
or_equal a l false g any tied same = same ∙ ap (λ b. b || any) (sym tied)

or_greater : (a l m g any : Bool) → (l || (m || g)) ≡ (m || any) → (l || (m || (a || g))) ≡ (m || (a || any))
or_greater true true true g any same = refl
or_greater true true false g any same = refl
or_greater true false true g any same = refl
or_greater true false false g any same = refl
or_greater false l m g any same = same

any_step : (t : List Value → Bool) (row : List Value) (m any : Bool) (below above : List (List Value)) (r : Ordering) → (r ≡ Equal → t row ≡ m)
    → (list_any t below || (m || list_any t above)) ≡ (m || any)
    → (list_any t (cond (is_lt r) (row ∷ below) below) || (m || list_any t (cond (is_gt r) (row ∷ above) above))) ≡ (m || (t row || any))
any_step t row m any below above Less tied same = or_less (t row) (list_any t below) m (list_any t above) any same
any_step t row m any below above Equal tied same = or_equal (t row) (list_any t below) m (list_any t above) any (tied refl) same
any_step t row m any below above Greater tied same = or_greater (t row) (list_any t below) m (list_any t above) any same

any_parts : (order : List Value → List Value → Ordering) (t : List Value → Bool) → ((r s : List Value) → order r s ≡ Equal → t r ≡ t s) → (row : List Value) (rows : List (List Value))
    → (list_any t (filter (λ r. is_lt (order r row)) rows) || (t row || list_any t (filter (λ r. is_gt (order r row)) rows))) ≡ (t row || list_any t rows)
any_parts order t alike row [] = refl
any_parts order t alike row (r ∷ rows) =
    any_step t r (t row) (list_any t rows) (filter (λ x. is_lt (order x row)) rows) (filter (λ x. is_gt (order x row)) rows) (order r row) (alike r row) (any_parts order t alike row rows)

-- a test that tied rows share finds as much in rows in an order as in the rows
pub any_sorted : (order : List Value → List Value → Ordering) (t : List Value → Bool) → ((r s : List Value) → order r s ≡ Equal → t r ≡ t s) → (rows : List (List Value))
    → list_any t (sorted order rows) ≡ list_any t rows
any_sorted order t alike [] = refl
any_sorted order t alike (row ∷ rows) =
    list_any-append t (filter (λ r. is_lt (order r row)) (sorted order rows)) (row ∷ filter (λ r. is_gt (order r row)) (sorted order rows))
    ∙ any_parts order t alike row (sorted order rows)
    ∙ ap (λ b. t row || b) (any_sorted order t alike rows)

tied_rest : (front rest : List ℕ) (a b : List Value) → columns_cmp (front ++ rest) a b ≡ Equal → columns_cmp rest a b ≡ Equal
tied_rest [] rest a b tied = tied
tied_rest (c ∷ front) rest a b tied =
    tied_rest front rest a b (both_tied (value_cmp (value_at a c) (value_at b c)) (columns_cmp (front ++ rest) a b) tied).1

-- rows that a key's order doesn't tell apart have the same values in the first key's columns
pub tied_first : (d : Definition) (n : ℕ) (r s : List Value) → key_cmp d n r s ≡ Equal → values_in (key_columns d.keys 0) r ≡ values_in (key_columns d.keys 0) s
tied_first d zero r s tied = exact_values _ _ (sym (columns_values (key_columns d.keys 0) r s) ∙ tied)
tied_first d (suc n) r s tied =
    exact_values _ _ (sym (columns_values (key_columns d.keys 0) r s) ∙ tied_rest (key_columns d.keys (suc n)) (key_columns d.keys 0) r s tied)

-- ---- the rows that a statement concerns

any_map : {X Y : Type 0} (t : Y → Bool) (f : X → Y) (xs : List X) → list_any t (map f xs) ≡ list_any (λ x. t (f x)) xs
any_map t f [] = refl
any_map t f (x ∷ xs) = ap (λ b. t (f x) || b) (any_map t f xs)

-- the row's values in the first key's columns are the key
abbrev stands_at : Definition → List Value → List Value → Bool
stands_at d key row = is_eq (values_cmp (values_in (key_columns d.keys 0) row) key)

stands_is : (d : Definition) (k key row : List Value) → has_key d (k, row) ≡ true → stands_at d key row ≡ is_eq (values_cmp k key)
stands_is d k key row has = ap (λ v. is_eq (values_cmp v key)) (sym (key_is d k row has))

any_cond : (t : List Value → Bool) (row : List Value) (rows : List (List Value)) (b : Bool) → t row ≡ false → list_any t (cond b (row ∷ rows) rows) ≡ list_any t rows
any_cond t row rows true none = ap (λ x. x || list_any t rows) none
any_cond t row rows false none = refl

-- none of the rows above a key stands at it
none_stands : (d : Definition) (p : List Value → Bool) (key : List Value) (es : List (List Value × List Value)) → list_all (has_key d) es ≡ true
    → AllByRecursion (λ k. values_cmp key k ≡ Less) (keys_of es) → list_any (stands_at d key) (filter p (values_of es)) ≡ false
none_stands d p key [] keyed above = refl
none_stands d p key (e ∷ es) keyed above =
    let parts = and_parts _ _ keyed in
    let apart : stands_at d key e.1 ≡ false =
    stands_is d e.0 key e.1 parts.0 ∙ ap is_eq (values_total.antisymm e.0 key ∙ ap ordering_reverse above.0) in
    any_cond (stands_at d key) e.1 (filter p (values_of es)) (p e.1) apart ∙ none_stands d p key es parts.1 above.1

here_step : (t : List Value → Bool) (row : List Value) (rows : List (List Value)) (b : Bool) → t row ≡ true → list_any t rows ≡ false → list_any t (cond b (row ∷ rows) rows) ≡ b
here_step t row rows true here none = ap (λ x. x || list_any t rows) here
here_step t row rows false here none = none

above_step : (d : Definition) (p : List Value → Bool) (e : List Value × List Value) (rows : List (List Value)) (es : List (List Value × List Value)) → has_key d e ≡ true
    → AllByRecursion (λ k. values_cmp e.0 k ≡ Less) (keys_of es) → AllByRecursion (λ x. list_any (stands_at d x.0) rows ≡ p x.1) es
    → AllByRecursion (λ x. list_any (stands_at d x.0) (cond (p e.1) (e.1 ∷ rows) rows) ≡ p x.1) es
above_step d p e rows [] has above all = tt
above_step d p e rows (x ∷ es) has above all =
    (any_cond (stands_at d x.0) e.1 rows (p e.1) (stands_is d e.0 x.0 e.1 has ∙ ap is_eq above.0) ∙ all.0, above_step d p e rows es has above.1 all.1)

-- of the rows that pass a test one stands at an entry's key exactly if the entry's row passes
among : (d : Definition) (p : List Value → Bool) (es : List (List Value × List Value)) → list_all (has_key d) es ≡ true → IsStrictlySortedBy values_cmp (keys_of es)
    → AllByRecursion (λ e. list_any (stands_at d e.0) (filter p (values_of es)) ≡ p e.1) es
among d p [] keyed rises = tt
among d p (e ∷ es) keyed rises =
    let parts = and_parts _ _ keyed in
    let above = sorted_head values_cmp e.0 (keys_of es) rises in
    let passed = filter p (values_of es) in (
      here_step (stands_at d e.0) e.1 passed (p e.1) (stands_is d e.0 e.0 e.1 parts.0 ∙ tied_key e.0) (none_stands d p e.0 es parts.1 above),
      above_step d p e passed es parts.0 above (among d p es parts.1 (sorted_tail values_cmp e.0 (keys_of es) rises)),
    )

filter_same : {X : Type 0} (g h : X → Bool) (xs : List X) → AllByRecursion (λ x. g x ≡ h x) xs → filter g xs ≡ filter h xs
filter_same g h [] same = refl
filter_same g h (x ∷ xs) same = λ i. cond (same.0 i) (x ∷ filter_same g h xs same.1 i) (filter_same g h xs same.1 i)

turn_all : {X : Type 0} (f g h : X → Bool) (xs : List X) → ((x : X) → f x ≡ g x) → AllByRecursion (λ x. g x ≡ h x) xs → AllByRecursion (λ x. not (f x) ≡ not (h x)) xs
turn_all f g h [] same all = tt
turn_all f g h (x ∷ xs) same all = (ap not (same x ∙ all.0), turn_all f g h xs same all.1)

-- Without those that a statement concerns the others are left.
pub without_concerned : (d : Definition) (n : ℕ) (sought : List Value) (es : List (List Value × List Value)) → list_all (has_key d) es ≡ true → IsStrictlySortedBy values_cmp (keys_of es)
    → values_of (without values_cmp (concerned_keys d n sought (values_of es)) es) ≡ others d n sought (values_of es)
without_concerned d n sought es keyed rises =
    let p = has_values (key_columns d.keys n) sought in
    let passed = filter p (values_of es) in
    let found = (λ (e : List Value × List Value).
    any_map (λ key. is_at (values_cmp key) e.0) (values_in (key_columns d.keys 0)) (sorted (key_cmp d n) passed)
    ∙ any_sorted (key_cmp d n) (stands_at d e.0) (λ r s tied. ap (λ v. is_eq (values_cmp v e.0)) (tied_first d n r s tied)) passed) in
    ap values_of (filter_same (λ e. not (list_any (λ key. is_at (values_cmp key) e.0) (concerned_keys d n sought (values_of es)))) (λ e. not (p e.1)) es
    (turn_all (λ e. list_any (λ key. is_at (values_cmp key) e.0) (concerned_keys d n sought (values_of es))) (λ e. list_any (stands_at d e.0) passed) (λ e. p e.1) es found (among d p es keyed rises)))
    ∙ values_of-filter (λ r. not (p r)) es

-- Each of them stands at its key still.
pub keyed_without : (d : Definition) (keys : List (List Value)) (es : List (List Value × List Value)) → list_all (has_key d) es ≡ true → list_all (has_key d) (without values_cmp keys es) ≡ true
keyed_without d keys es keyed = list_all-filter (has_key d) (λ e. not (list_any (λ key. is_at (values_cmp key) e.0) keys)) es keyed
