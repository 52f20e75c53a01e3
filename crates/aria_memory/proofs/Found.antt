-- The rows that have some values first in a key's columns: where they stand, and in which order.
use Rattle.std.specs.Prelude.{◌≡◌, ℕ, Bool, true, false, ◌&&◌, cond, List, [], ◌∷◌, ◌++◌, map, refl}
use Rattle.std.specs.List.{filter, list_all, take_while, AllByRecursion}
use Rattle.std.specs.List.Sorted.{IsStrictlySortedBy}
use Rattle.std.specs.declared.cmp.Ordering.{Ordering}
use Rattle.std.specs.declared.cmp.Ordering.TheVariants.{Less, Equal, Greater}
use Rattle.std.specs.Ordering.{is_eq, is_lt, is_gt, is_le, match_ordering, ordering_reverse, ordering_then}
use Rattle.std.specs.Cmp.{IsTotalOrder, tied_itself, Equal-is}
use Rattle.std.specs.BTreeMap.{insert_entry}
use Rattle.std.specs.Map.{keys_of, values_of}
use Rattle.std.proofs.Common.{sym, ap, subst, ◌∙◌, append_assoc}
use Rattle.std.proofs.lemmas.List.{append-nil, map-append}
use Rattle.std.proofs.lemmas.Bool.{and_parts, and_from}
use Rattle.std.proofs.lemmas.Map.Keys.{sorted_head, sorted_tail}
use Rattle.std.proofs.lemmas.Map.Lookups.{exact_signed, exact_bytes}
use Rattle.std.proofs.lemmas.List.Sums.{take_while-cons}
use Rattle.aria_value.specs.declared.value.Value.{Value}
use Rattle.aria_value.specs.declared.value.Value.TheVariants.{Null, Int, Text}
use Rattle.aria_value.specs.declared.definition.Definition.{Definition}
use Rattle.aria_value.specs.ValueOrder.{value_total}
use Rattle.aria_value.specs.Order.{value_cmp, value_at, key_columns, key_cmp, put, sorted, has_values}
use Rattle.aria_memory.specs.Keyed.{values_cmp, values_in, has_key}
use Rattle.aria_memory.proofs.Entries.{sorted_values}
use Rattle.aria_memory.proofs.Keyed.{values_total, keys_order}

-- ---- values that the order doesn't tell apart are the same

exact_value : (a b : Value) → value_cmp a b ≡ Equal → a ≡ b
exact_value Null Null tied = refl
exact_value Null (Int b) tied = absurd (cc)
exact_value Null (Text b) tied = absurd (cc)
exact_value (Int a) Null tied = absurd (cc)
exact_value (Int a) (Int b) tied = ap Int (exact_signed a b tied)
exact_value (Int a) (Text b) tied = absurd (cc)
exact_value (Text a) Null tied = absurd (cc)
exact_value (Text a) (Int b) tied = absurd (cc)
exact_value (Text a) (Text b) tied = ap Text (exact_bytes a b tied)

pub both_tied : (r s : Ordering) → ordering_then r s ≡ Equal → (r ≡ Equal) × (s ≡ Equal)
both_tied Less s tied = absurd (cc)
both_tied Equal s tied = (refl, tied)
both_tied Greater s tied = absurd (cc)

pub exact_values : (a b : List Value) → values_cmp a b ≡ Equal → a ≡ b
exact_values [] [] tied = refl
exact_values [] (y ∷ ys) tied = absurd (cc)
exact_values (x ∷ xs) [] tied = absurd (cc)
exact_values (x ∷ xs) (y ∷ ys) tied =
    let both = both_tied (value_cmp x y) (values_cmp xs ys) tied in
    let first = exact_value x y both.0 in
    let rest = exact_values xs ys both.1 in
    λ i. first i ∷ rest i

-- a row stands at its values in the columns of the first key
pub key_is : (d : Definition) (k row : List Value) → has_key d (k, row) ≡ true → k ≡ values_in (key_columns d.keys 0) row
key_is d k row has = exact_values k (values_in (key_columns d.keys 0) row) ((Equal-is (values_cmp k (values_in (key_columns d.keys 0) row))).0 has)

pub tied_key : (k : List Value) → is_eq (values_cmp k k) ≡ true
tied_key k = ap is_eq (tied_itself values_total k)

-- ---- keys that begin with some values

-- the values begin the key
abbrev pub begins : List Value → List Value → Bool
begins [] key = true
begins (v ∷ vs) [] = false
begins (v ∷ vs) (x ∷ xs) = is_eq (value_cmp x v) && begins vs xs

-- a row has values first in some columns if they begin its values there
pub has_values-begins : (columns : List ℕ) (sought row : List Value) → has_values columns sought row ≡ begins sought (values_in columns row)
has_values-begins [] [] row = refl
has_values-begins (c ∷ cs) [] row = refl
has_values-begins [] (v ∷ vs) row = refl
has_values-begins (c ∷ cs) (v ∷ vs) row = ap (λ b. is_eq (value_cmp (value_at row c) v) && b) (has_values-begins cs vs row)

-- what begins a key isn't above it
pub begins_from : (vs key : List Value) → begins vs key ≡ true → is_le (values_cmp vs key) ≡ true
begins_from [] [] begin = refl
begins_from [] (x ∷ xs) begin = refl
begins_from (v ∷ vs) [] begin = absurd (cc)
begins_from (v ∷ vs) (x ∷ xs) begin =
    let parts = and_parts _ _ begin in
    let same : x ≡ v = exact_value x v ((Equal-is (value_cmp x v)).0 parts.0) in
    ap (λ r. is_le (ordering_then r (values_cmp vs xs))) (ap (value_cmp v) same ∙ tied_itself value_total v) ∙ begins_from vs xs parts.1

and_false : (b : Bool) → (b && false) ≡ false
and_false true = refl
and_false false = refl

-- a value below another isn't tied with it, from either side
apart : (v y : Value) → value_cmp v y ≡ Less → is_eq (value_cmp y v) ≡ false
apart v y less = ap is_eq (value_total.antisymm y v ∙ ap ordering_reverse less)

past_first : (v y : Value) (vs ys : List Value) → value_cmp v y ≡ Less → begins (v ∷ vs) (y ∷ ys) ≡ false
past_first v y vs ys less = ap (λ b. b && begins vs ys) (apart v y less)

-- the first values of a key that isn't below, and of one above it
past_step : (v x y : Value) (vs xs ys : List Value) (r s : Ordering) → value_cmp v x ≡ r → value_cmp x y ≡ s
    → is_le (ordering_then r (values_cmp vs xs)) ≡ true → ordering_then s (values_cmp xs ys) ≡ Less → begins (v ∷ vs) (x ∷ xs) ≡ false
    → (is_le (values_cmp vs xs) ≡ true → values_cmp xs ys ≡ Less → begins vs xs ≡ false → begins vs ys ≡ false)
    → begins (v ∷ vs) (y ∷ ys) ≡ false
past_step v x y vs xs ys Less Less vx xy from above none rest = past_first v y vs ys (value_total.trans v x y vx xy)
past_step v x y vs xs ys Less Equal vx xy from above none rest = past_first v y vs ys (ap (value_cmp v) (sym (exact_value x y xy)) ∙ vx)
past_step v x y vs xs ys r Greater vx xy from above none rest = absurd (cc)
past_step v x y vs xs ys Equal Less vx xy from above none rest = past_first v y vs ys (ap (λ u. value_cmp u y) (exact_value v x vx) ∙ xy)
past_step v x y vs xs ys Equal Equal vx xy from above none rest =
    let same : is_eq (value_cmp x v) ≡ true = ap is_eq (ap (value_cmp x) (exact_value v x vx) ∙ tied_itself value_total x) in
    let none_left : begins vs xs ≡ false = sym (ap (λ b. b && begins vs xs) same) ∙ none in
    ap (λ b. is_eq (value_cmp y v) && b) (rest from above none_left) ∙ and_false (is_eq (value_cmp y v))
past_step v x y vs xs ys Greater Less vx xy from above none rest = absurd (cc)
past_step v x y vs xs ys Greater Equal vx xy from above none rest = absurd (cc)

-- Behind a key that isn't below the values and doesn't begin with them, none does.
pub begins_past : (vs key above : List Value) → is_le (values_cmp vs key) ≡ true → values_cmp key above ≡ Less → begins vs key ≡ false → begins vs above ≡ false
begins_past [] key above from less none = absurd (cc)
begins_past (v ∷ vs) [] above from less none = absurd (cc)
begins_past (v ∷ vs) (x ∷ xs) [] from less none = refl
begins_past (v ∷ vs) (x ∷ xs) (y ∷ ys) from less none =
    past_step v x y vs xs ys (value_cmp v x) (value_cmp x y) refl refl from less none (begins_past vs xs ys)

-- ---- entries in the keys' order, some of them

pub values_of-filter : {K X : Type 0} (p : X → Bool) (es : List (K × X)) → values_of (filter (λ e. p e.1) es) ≡ filter p (values_of es)
values_of-filter p [] = refl
values_of-filter p (e ∷ es) = elim (p e.1) as (λ b. values_of (cond b (e ∷ filter (λ x. p x.1) es) (filter (λ x. p x.1) es)) ≡ cond b (e.1 ∷ filter p (values_of es)) (filter p (values_of es))) [
  | true ↦ ap (λ xs. e.1 ∷ xs) (values_of-filter p es)
  | false ↦ values_of-filter p es
]

all_step : {X : Type 0} (has p : X → Bool) (x : X) (xs : List X) (b : Bool) → has x ≡ true → list_all has (filter p xs) ≡ true → list_all has (cond b (x ∷ filter p xs) (filter p xs)) ≡ true
all_step has p x xs true first rest = and_from _ _ first rest
all_step has p x xs false first rest = rest

pub list_all-filter : {X : Type 0} (has p : X → Bool) (xs : List X) → list_all has xs ≡ true → list_all has (filter p xs) ≡ true
list_all-filter has p [] all = refl
list_all-filter has p (x ∷ xs) all = let parts = and_parts _ _ all in all_step has p x xs (p x) parts.0 (list_all-filter has p xs parts.1)

above_filter : {K X : Type 0} (P : K → Type 0) (p : K × X → Bool) (es : List (K × X)) → AllByRecursion P (keys_of es) → AllByRecursion P (keys_of (filter p es))
above_filter P p [] all = tt
above_filter P p (e ∷ es) all = elim (p e) as (λ b. AllByRecursion P (keys_of (cond b (e ∷ filter p es) (filter p es)))) [
  | true ↦ (all.0, above_filter P p es all.1)
  | false ↦ above_filter P p es all.1
]

pub rises_filter : {K X : Type 0} (cmp : K → K → Ordering) (p : K × X → Bool) (es : List (K × X)) → IsStrictlySortedBy cmp (keys_of es) → IsStrictlySortedBy cmp (keys_of (filter p es))
unfolding IsStrictlySortedBy
rises_filter cmp p [] rises = tt
rises_filter cmp p (e ∷ es) rises = elim (p e) as (λ b. IsStrictlySortedBy cmp (keys_of (cond b (e ∷ filter p es) (filter p es)))) [
  | true ↦ (above_filter (λ q. cmp e.0 q ≡ Less) p es rises.0, rises_filter cmp p es rises.1)
  | false ↦ rises_filter cmp p es rises.1
]

-- ---- the rows that have values first in the first key's columns

test_is : (d : Definition) (sought key row : List Value) → has_key d (key, row) ≡ true → has_values (key_columns d.keys 0) sought row ≡ begins sought key
test_is d sought key row has = has_values-begins (key_columns d.keys 0) sought row ∙ ap (begins sought) (sym (key_is d key row has))

none_past : (d : Definition) (sought key : List Value) (es : List (List Value × List Value)) → list_all (has_key d) es ≡ true → AllByRecursion (λ k. values_cmp key k ≡ Less) (keys_of es)
    → is_le (values_cmp sought key) ≡ true → begins sought key ≡ false → filter (has_values (key_columns d.keys 0) sought) (values_of es) ≡ []
none_past d sought key [] keyed above from none = refl
none_past d sought key (e ∷ es) keyed above from none =
    let parts = and_parts _ _ keyed in
    let rest = filter (has_values (key_columns d.keys 0) sought) (values_of es) in
    ap (λ b. cond b (e.1 ∷ rest) rest) (test_is d sought e.0 e.1 parts.0 ∙ begins_past sought key e.0 from above.0 none)
    ∙ none_past d sought key es parts.1 above.1 from none

not_from : (from test : Bool) → (test ≡ true → from ≡ true) → from ≡ false → test ≡ false
not_from true test h is = absurd (cc)
not_from false true h is = sym (h refl)
not_from false false h is = refl

run_step : (p : List Value → Bool) (e : List Value × List Value) (fs : List (List Value × List Value)) (passed : List (List Value)) (from test : Bool)
    → p e.1 ≡ test → (from ≡ false → test ≡ false) → (from ≡ true → test ≡ false → passed ≡ []) → take_while p (values_of fs) ≡ passed
    → take_while p (values_of (cond (from && true) (e ∷ fs) fs)) ≡ cond test (e.1 ∷ passed) passed
run_step p e fs passed true true at outside none rest =
    take_while-cons p e.1 (values_of fs) ∙ ap (λ b. cond b (e.1 ∷ take_while p (values_of fs)) []) at ∙ ap (λ rows. e.1 ∷ rows) rest
run_step p e fs passed true false at outside none rest =
    take_while-cons p e.1 (values_of fs) ∙ ap (λ b. cond b (e.1 ∷ take_while p (values_of fs)) []) at ∙ sym (none refl refl)
run_step p e fs passed false true at outside none rest = let no : true ≡ false = outside refl in absurd (cc)
run_step p e fs passed false false at outside none rest = rest

-- They stand together, right behind the rows below the values.
pub first_run : (d : Definition) (sought : List Value) (es : List (List Value × List Value)) → list_all (has_key d) es ≡ true → IsStrictlySortedBy values_cmp (keys_of es)
    → take_while (has_values (key_columns d.keys 0) sought) (values_of (filter (λ e. is_le (values_cmp sought e.0) && true) es))
    ≡ filter (has_values (key_columns d.keys 0) sought) (values_of es)
first_run d sought [] keyed rises = refl
first_run d sought (e ∷ es) keyed rises =
    let p = has_values (key_columns d.keys 0) sought in
    let parts = and_parts _ _ keyed in
    let test = test_is d sought e.0 e.1 parts.0 in
    run_step p e (filter (λ x. is_le (values_cmp sought x.0) && true) es) (filter p (values_of es)) (is_le (values_cmp sought e.0)) (p e.1) refl
    (not_from (is_le (values_cmp sought e.0)) (p e.1) (λ h. begins_from sought e.0 (sym test ∙ h)))
    (λ from none. none_past d sought e.0 es parts.1 (sorted_head values_cmp e.0 (keys_of es) rises) from (sym test ∙ none))
    (first_run d sought es parts.1 (sorted_tail values_cmp e.0 (keys_of es) rises))

-- a row of the run taken
pub run_turn : (p : List Value → Bool) (front : List (List Value)) (key row : List Value) (left next : List (List Value × List Value)) (all : List (List Value))
    → left ≡ (key, row) ∷ next → p row ≡ true → front ++ take_while p (values_of left) ≡ all → (front ++ row ∷ []) ++ take_while p (values_of next) ≡ all
run_turn p front key row left next all is has so_far =
    append_assoc front (row ∷ []) (take_while p (values_of next))
    ∙ ap (λ rows. front ++ rows) (sym (ap (λ es. take_while p (values_of es)) is ∙ take_while-cons p row (values_of next) ∙ ap (λ b. cond b (row ∷ take_while p (values_of next)) []) has))
    ∙ so_far

-- the first row behind it
pub run_stop : (p : List Value → Bool) (front : List (List Value)) (key row : List Value) (left next : List (List Value × List Value)) (all : List (List Value))
    → left ≡ (key, row) ∷ next → p row ≡ false → front ++ take_while p (values_of left) ≡ all → front ≡ all
run_stop p front key row left next all is has so_far =
    sym (append-nil front)
    ∙ ap (λ rows. front ++ rows) (sym (ap (λ es. take_while p (values_of es)) is ∙ take_while-cons p row (values_of next) ∙ ap (λ b. cond b (row ∷ take_while p (values_of next)) []) has))
    ∙ so_far

-- no row is left
pub run_end : (p : List Value → Bool) (front : List (List Value)) (left : List (List Value × List Value)) (all : List (List Value))
    → left ≡ [] → front ++ take_while p (values_of left) ≡ all → front ≡ all
run_end p front left all is so_far = sym (append-nil front) ∙ ap (λ es. front ++ take_while p (values_of es)) (sym is) ∙ so_far

-- Some of a table's rows are in the first key's order.
pub sorted_some : (d : Definition) (p : List Value → Bool) (es : List (List Value × List Value)) → list_all (has_key d) es ≡ true → IsStrictlySortedBy values_cmp (keys_of es)
    → sorted (key_cmp d 0) (filter p (values_of es)) ≡ filter p (values_of es)
sorted_some d p es keyed rises =
    let fs = filter (λ e. p e.1) es in
    let some : values_of fs ≡ filter p (values_of es) = values_of-filter p es in
    ap (sorted (key_cmp d 0)) (sym some)
    ∙ sorted_values values_total (key_cmp d 0) (has_key d) (keys_order d) fs (list_all-filter (has_key d) (λ e. p e.1) es keyed) (rises_filter values_cmp (λ e. p e.1) es rises)
    ∙ some

-- ---- rows put in another order

-- rows put, the last of them first
abbrev pub puts : (List Value → List Value → Ordering) → List (List Value) → List (List Value) → List (List Value)
puts order [] base = base
puts order (row ∷ rows) base = put order row (puts order rows base)

pub puts-nothing : (order : List Value → List Value → Ordering) (rows : List (List Value)) → puts order rows [] ≡ sorted order rows
puts-nothing order [] = refl
puts-nothing order (row ∷ rows) = ap (put order row) (puts-nothing order rows)

pub puts-last : (order : List Value → List Value → Ordering) (rows : List (List Value)) (row : List Value) (base : List (List Value))
    → puts order (rows ++ row ∷ []) base ≡ puts order rows (put order row base)
puts-last order [] row base = refl
puts-last order (r ∷ rows) row base = ap (put order r) (puts-last order rows row base)

-- the last row left put to those so far
pub puts_turn : {X : Type 0} (order : List Value → List Value → Ordering) (f : X → List Value) (found left : List X) (x : X) (base inserted all : List (List Value))
    → found ≡ left ++ x ∷ [] → inserted ≡ put order (f x) base → puts order (map f found) base ≡ all → puts order (map f left) inserted ≡ all
puts_turn order f found left x base inserted all is put_in so_far =
    ap (puts order (map f left)) put_in
    ∙ sym (puts-last order (map f left) (f x) base)
    ∙ ap (λ rows. puts order rows base) (sym (ap (map f) is ∙ map-append f left (x ∷ [])))
    ∙ so_far

module _ {K X : Type 0} {cmp : K → K → Ordering} (o : IsTotalOrder cmp) (exact : (a b : K) → cmp a b ≡ Equal → a ≡ b) (order : List Value → List Value → Ordering)
    (key : X → K) (row : X → List Value) (alike : (x y : X) → order (row x) (row y) ≡ cmp (key x) (key y)) where
  -- each stands at its key
  abbrev pub ArePlaced : List (K × X) → Type 0
  ArePlaced es = AllByRecursion (λ e. e.0 ≡ key e.1) es

  placed_step : (x : X) (e : K × X) (es inserted : List (K × X)) (r : Ordering) → cmp (key x) e.0 ≡ r → ArePlaced (e ∷ es) → ArePlaced inserted
      → ArePlaced (match_ordering r ((key x, x) ∷ e ∷ es) ((e.0, x) ∷ es) (e ∷ inserted))
  placed_step x e es inserted Less at placed more = (refl, placed)
  placed_step x e es inserted Equal at placed more = (sym (exact (key x) e.0 at), placed.1)
  placed_step x e es inserted Greater at placed more = (placed.0, more)

  pub placed_insert : (x : X) (es : List (K × X)) → ArePlaced es → ArePlaced (insert_entry cmp es (key x) x)
  placed_insert x [] placed = (refl, tt)
  placed_insert x (e ∷ es) placed = placed_step x e es (insert_entry cmp es (key x) x) (cmp (key x) e.0) refl placed (placed_insert x es placed.1)

  abbrev rows_of : List (K × X) → List (List Value)
  rows_of es = map row (values_of es)

  -- of rows above one none is below it
  above_row : (x : X) (es : List (K × X)) → ArePlaced es → AllByRecursion (λ q. cmp (key x) q ≡ Less) (keys_of es)
      → (filter (λ r. is_lt (order r (row x))) (rows_of es) ≡ []) × (filter (λ r. is_gt (order r (row x))) (rows_of es) ≡ rows_of es)
  above_row x [] placed above = (refl, refl)
  above_row x (e ∷ es) placed above =
      let first : order (row e.1) (row x) ≡ Greater =
      alike e.1 x ∙ o.antisymm (key e.1) (key x) ∙ ap ordering_reverse (ap (cmp (key x)) (sym placed.0) ∙ above.0) in
      let rest = above_row x es placed.1 above.1 in
      (rw first rest.0, rw first (ap (λ rows. row e.1 ∷ rows) rest.1))

  above_next : (k q : K) (ks : List K) → cmp k q ≡ Less → AllByRecursion (λ y. cmp q y ≡ Less) ks → AllByRecursion (λ y. cmp k y ≡ Less) ks
  above_next k q [] less above = tt
  above_next k q (y ∷ ys) less above = (o.trans k q y less above.0, above_next k q ys less above.1)

  put_step : (x : X) (e : K × X) (es inserted : List (K × X)) (r : Ordering) → cmp (key x) e.0 ≡ r → ArePlaced (e ∷ es) → IsStrictlySortedBy cmp (keys_of (e ∷ es))
      → rows_of inserted ≡ put order (row x) (rows_of es)
      → rows_of (match_ordering r ((key x, x) ∷ e ∷ es) ((e.0, x) ∷ es) (e ∷ inserted)) ≡ put order (row x) (rows_of (e ∷ es))
  put_step x e es inserted Less at placed rises more =
      let above = above_row x (e ∷ es) placed (at, above_next (key x) e.0 (keys_of es) at (sorted_head cmp e.0 (keys_of es) rises)) in
      λ i. sym above.0 i ++ row x ∷ sym above.1 i
  put_step x e es inserted Equal at placed rises more =
      let first : order (row e.1) (row x) ≡ Equal = alike e.1 x ∙ ap (λ k. cmp k (key x)) (sym (exact (key x) e.0 at ∙ placed.0)) ∙ tied_itself o (key x) in
      let above = above_row x es placed.1 (subst (λ k. AllByRecursion (λ y. cmp k y ≡ Less) (keys_of es)) (sym (exact (key x) e.0 at)) (sorted_head cmp e.0 (keys_of es) rises)) in
      rw first (λ i. sym above.0 i ++ row x ∷ sym above.1 i)
  put_step x e es inserted Greater at placed rises more =
      let first : order (row e.1) (row x) ≡ Less = alike e.1 x ∙ o.antisymm (key e.1) (key x) ∙ ap ordering_reverse (ap (cmp (key x)) (sym placed.0) ∙ at) in
      rw first (ap (λ rows. row e.1 ∷ rows) more)

  -- a row put in its place, whether one of its key stands there or not
  pub put_placed : (x : X) (es : List (K × X)) → ArePlaced es → IsStrictlySortedBy cmp (keys_of es) → rows_of (insert_entry cmp es (key x) x) ≡ put order (row x) (rows_of es)
  put_placed x [] placed rises = refl
  put_placed x (e ∷ es) placed rises =
      put_step x e es (insert_entry cmp es (key x) x) (cmp (key x) e.0) refl placed rises (put_placed x es placed.1 (sorted_tail cmp e.0 (keys_of es) rises))
