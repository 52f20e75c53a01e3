-- Rows of a table by the values of its first key.
use Rattle.std.specs.Prelude.{◌≡◌, ℕ, ◌+◌, ◌<◌, ◌≤◌, Bool, true, false, nat_lt, nat_le, List, [], ◌∷◌, length, drop, Option, Some, None, refl}
use Rattle.std.specs.List.{list_any}
use Rattle.std.specs.declared.cmp.Ordering.{Ordering}
use Rattle.std.specs.declared.cmp.Ordering.TheVariants.{Less, Equal, Greater}
use Rattle.std.specs.List.Sorted.{IsStrictlySortedBy}
use Rattle.std.specs.BTreeMap.{is_at, insert_entry}
use Rattle.std.specs.Map.{keys_of, values_of, lookup}
use Rattle.std.specs.Option.{is_some}
use Rattle.std.specs.Ordering.{is_eq, ordering_then, ordering_reverse}
use Rattle.std.specs.Cmp.{IsTotalOrder, tied_itself, Equal-is}
use Rattle.std.specs.Cmp.Lexicographic.{lists_total}
use Rattle.std.proofs.lemmas.Map.Entries.{length-values_of}
use Rattle.std.proofs.Common.{sym, ap, ◌∙◌, arith, get_or, drop-cons}
use Rattle.std.proofs.lemmas.List.{drop_all}
use Rattle.std.proofs.lemmas.Bool.{and_parts, leb-true}
use Rattle.aria_value.specs.declared.value.Value.{Value}
use Rattle.aria_value.specs.declared.value.Value.TheVariants.{Null}
use Rattle.aria_value.specs.declared.definition.Column.{Column}
use Rattle.aria_value.specs.declared.definition.Key.{Key}
use Rattle.aria_value.specs.declared.definition.Definition.{Definition}
use Rattle.aria_value.specs.ValueOrder.{value_total}
use Rattle.aria_value.specs.Defined.{is_definition}
use Rattle.aria_value.specs.Order.{value_at, value_cmp, columns_cmp, key_columns, key_cmp, put, sorted}
use Rattle.aria_value.specs.Stored.{row_length}
use Rattle.aria_value.proofs.Definitions.{definition_is}
use Rattle.aria_model.specs.declared.refusal.Refusal.{Refusal}
use Rattle.aria_model.specs.declared.refusal.Refusal.TheVariants.{RowTooLong, Duplicate, RowsFull}
use Rattle.aria_model.specs.Step.{bad_column, bad_value, first_key_name, first_of, refused_where, row_refusal, Puts, put_all}
use Rattle.aria_memory.specs.Keyed.{values_cmp, values_in, has_key, are_keyed}
use Rattle.aria_memory.proofs.Entries.{any_alike, keyed_insert, put_inserted, sorted_values}

-- ---- a definition has a column and a key

pub has_columns : (d : Definition) → is_definition d ≡ true → 1 ≤ length d.columns
has_columns d is =
    let few = and_parts _ _ (definition_is d is).columns in
    leb-true 1 (length d.columns) (and_parts _ _ few.0).0

pub has_keys : (d : Definition) → is_definition d ≡ true → 1 ≤ length d.keys
has_keys d is =
    let keys = and_parts _ _ (definition_is d is).keys in
    let few = and_parts _ _ keys.0 in
    leb-true 1 (length d.keys) (and_parts _ _ few.0).0

first_of_keys : (keys : List Key) (other : Key) → 1 ≤ length keys → (get_or keys 0 other).name ≡ first_key_name keys
first_of_keys [] other some = absurd (omega arith)
first_of_keys (key ∷ keys) other some = refl

-- the name of the key that stands first
pub first_name : (d : Definition) (other : Key) → is_definition d ≡ true → (get_or d.keys 0 other).name ≡ first_key_name d.keys
first_name d other is = first_of_keys d.keys other (has_keys d is)

-- ---- rows by their keys

pub values_total : IsTotalOrder values_cmp
values_total = lists_total value_total

-- rows stand to one another by some columns as their values there do
pub columns_values : (cs : List ℕ) (a b : List Value) → columns_cmp cs a b ≡ values_cmp (values_in cs a) (values_in cs b)
columns_values [] a b = refl
columns_values (c ∷ cs) a b = ap (ordering_then (value_cmp (value_at a c) (value_at b c))) (columns_values cs a b)

-- a row has its own values
pub has_key_itself : (d : Definition) (k row : List Value) → k ≡ values_in (key_columns d.keys 0) row → has_key d (k, row) ≡ true
has_key_itself d k row is = rw is (rw (tied_itself values_total (values_in (key_columns d.keys 0) row)) refl)

tied : (d : Definition) (k row : List Value) → has_key d (k, row) ≡ true → values_cmp k (values_in (key_columns d.keys 0) row) ≡ Equal
tied d k row has = (Equal-is (values_cmp k (values_in (key_columns d.keys 0) row))).0 has

-- rows stand to one another as their keys do
pub keys_order : (d : Definition) (a b : List Value) (r s : List Value) → has_key d (a, r) ≡ true → has_key d (b, s) ≡ true → key_cmp d 0 r s ≡ values_cmp a b
keys_order d a b r s ra sb =
    let x = values_in (key_columns d.keys 0) r in
    let y = values_in (key_columns d.keys 0) s in
    columns_values (key_columns d.keys 0) r s
    ∙ values_total.antisymm x y
    ∙ ap ordering_reverse (sym (values_total.congr b y x (tied d b s sb)) ∙ values_total.antisymm b x)
    ∙ sym (ap ordering_reverse (ap ordering_reverse (values_total.congr a x b (tied d a r ra))))
    ∙ turned_twice (values_cmp a b)
  where
    turned_twice : (r : Ordering) → ordering_reverse (ordering_reverse r) ≡ r
    turned_twice Less = refl
    turned_twice Equal = refl
    turned_twice Greater = refl

-- ---- the values of a row, column by column

-- a column without a value
pub none_here : (keyed : List ℕ) (nth : ℕ) (last : List ℕ) (columns : List Column) (row : List Value) (c : Column)
    → nth < length columns → length row ≤ nth → get_or columns nth c ≡ c → bad_column keyed nth last (drop nth columns) (drop nth row) ≡ Some c.name
none_here keyed nth last columns row c low past column =
    rw (drop-cons columns nth c, column, drop_all nth row past) refl

-- values past the last column
pub left_over : (keyed : List ℕ) (nth : ℕ) (last : List ℕ) (columns : List Column) (row : List Value) → length columns ≤ nth → nth < length row
    → bad_column keyed nth last (drop nth columns) (drop nth row) ≡ Some last
left_over keyed nth last columns row past low = rw (drop_all nth columns past, drop-cons row nth Null) refl

-- ---- rows put one after another

-- the rows from one on, by its refusal
abbrev puts_from : Definition → ℕ → List (List Value) → List Value → List (List Value) → Option Refusal → Puts
puts_from d n rows row more refusal = elim refusal [
  | Some why ↦ record { rows = rows; refusal = Some why }
  | None ↦ put_all d None (n + 1) (put (key_cmp d 0) row rows) more
]

puts_alike : (d : Definition) (m n : ℕ) (rows : List (List Value)) (row : List Value) (more : List (List Value)) (refusal : Option Refusal)
    → put_all d None (m + 1) (put (key_cmp d 0) row rows) more ≡ put_all d None (n + 1) (put (key_cmp d 0) row rows) more
    → puts_from d m rows row more refusal ≡ puts_from d n rows row more refusal
puts_alike d m n rows row more (Some why) same = refl
puts_alike d m n rows row more None same = same

-- without exceptions it doesn't matter from which number the rows are counted
put_all_from : (d : Definition) (more rows : List (List Value)) (m n : ℕ) → put_all d None m rows more ≡ put_all d None n rows more
put_all_from d [] rows m n = refl
put_all_from d (row ∷ more) rows m n =
    puts_alike d m n rows row more (row_refusal d None 1 rows row) (put_all_from d more (put (key_cmp d 0) row rows) (m + 1) (n + 1))

-- a row that is put
pub put_all-fits : (d : Definition) (rows : List (List Value)) (row : List Value) (more : List (List Value)) → row_refusal d None 1 rows row ≡ None
    → put_all d None 1 rows (row ∷ more) ≡ put_all d None 1 (put (key_cmp d 0) row rows) more
put_all-fits d rows row more fits = ap (puts_from d 1 rows row more) fits ∙ put_all_from d more (put (key_cmp d 0) row rows) (1 + 1) 1

-- ---- entries by key

-- a row's key is among the keys exactly if a row of that key is among the rows
pub twice_by_key : (d : Definition) (es : List (List Value × List Value)) (k row : List Value) → are_keyed d es ≡ true → k ≡ values_in (key_columns d.keys 0) row
    → list_any (λ other. is_eq (key_cmp d 0 other row)) (values_of es) ≡ is_some (lookup (is_at (values_cmp k)) es)
twice_by_key d es k row keyed at = any_alike values_total (key_cmp d 0) (has_key d) (keys_order d) k row es (has_key_itself d k row at) keyed

-- one more row, under its key
pub are_keyed-insert : (d : Definition) (es : List (List Value × List Value)) (k row : List Value) → are_keyed d es ≡ true → k ≡ values_in (key_columns d.keys 0) row
    → lookup (is_at (values_cmp k)) es ≡ None → are_keyed d (insert_entry values_cmp es k row) ≡ true
are_keyed-insert d es k row keyed at fresh = keyed_insert values_cmp (has_key d) k row es (has_key_itself d k row at) keyed fresh

-- it stands in its place among the rows
pub values-insert : (d : Definition) (es : List (List Value × List Value)) (k row : List Value) → are_keyed d es ≡ true → k ≡ values_in (key_columns d.keys 0) row
    → IsStrictlySortedBy values_cmp (keys_of es) → lookup (is_at (values_cmp k)) es ≡ None → values_of (insert_entry values_cmp es k row) ≡ put (key_cmp d 0) row (values_of es)
values-insert d es k row keyed at rises fresh =
    put_inserted values_total (key_cmp d 0) (has_key d) (keys_order d) k row es (has_key_itself d k row at) keyed rises fresh

-- the rows are in the first key's order
pub values-sorted : (d : Definition) (es : List (List Value × List Value)) → are_keyed d es ≡ true → IsStrictlySortedBy values_cmp (keys_of es)
    → sorted (key_cmp d 0) (values_of es) ≡ values_of es
values-sorted d es keyed rises = sorted_values values_total (key_cmp d 0) (has_key d) (keys_order d) es keyed rises

-- ---- the refusals of a row

-- the refusal of a row by its four tests
pub refusal_by : (d : Definition) (es : List (List Value × List Value)) (k row : List Value) (bad : Option (List ℕ)) (long twice full : Bool) → are_keyed d es ≡ true
    → k ≡ values_in (key_columns d.keys 0) row → bad_column (key_columns d.keys 0) 0 [] d.columns row ≡ bad → nat_lt 65536 (row_length row) ≡ long
    → is_some (lookup (is_at (values_cmp k)) es) ≡ twice → nat_le d.max_rows (length es) ≡ full
    → row_refusal d None 1 (values_of es) row ≡ first_of (bad_value bad ∷ refused_where long RowTooLong ∷ refused_where twice (Duplicate (first_key_name d.keys)) ∷ refused_where full RowsFull ∷ None ∷ [])
refusal_by d es k row bad long twice full keyed at b l t f =
    let found = twice_by_key d es k row keyed at ∙ t in
    let rows = ap (nat_le d.max_rows) (length-values_of es) ∙ f in
    λ i. first_of (bad_value (b i) ∷ refused_where (l i) RowTooLong ∷ refused_where (found i) (Duplicate (first_key_name d.keys)) ∷ refused_where (rows i) RowsFull ∷ None ∷ [])

second_passes : (bad long : Option Refusal) (twice : Bool) (why : Refusal) (full : Option Refusal) → first_of (bad ∷ long ∷ refused_where twice why ∷ full ∷ None ∷ []) ≡ None → twice ≡ false
second_passes (Some x) long twice why full none = absurd (cc)
second_passes None (Some x) twice why full none = absurd (cc)
second_passes None None true why full none = absurd (cc)
second_passes None None false why full none = refl

not_found : {X : Type 0} (found : Option X) → is_some found ≡ false → found ≡ None
not_found None is = refl
not_found (Some x) is = absurd (cc)

-- the key of a row that isn't refused isn't there yet
pub fresh_key : (d : Definition) (es : List (List Value × List Value)) (k row : List Value) → are_keyed d es ≡ true → k ≡ values_in (key_columns d.keys 0) row
    → row_refusal d None 1 (values_of es) row ≡ None → lookup (is_at (values_cmp k)) es ≡ None
fresh_key d es k row keyed at fits =
    not_found (lookup (is_at (values_cmp k)) es)
    (sym (twice_by_key d es k row keyed at)
    ∙ second_passes (bad_value (bad_column (key_columns d.keys 0) 0 [] d.columns row)) (refused_where (nat_lt 65536 (row_length row)) RowTooLong)
    (list_any (λ other. is_eq (key_cmp d 0 other row)) (values_of es)) (Duplicate (first_key_name d.keys)) (refused_where (nat_le d.max_rows (length (values_of es))) RowsFull) fits)

-- rows put one after another, one row on
pub put_all_next : (d : Definition) (es : List (List Value × List Value)) (k row : List Value) (more all : List (List Value)) (puts : Puts) → are_keyed d es ≡ true
    → k ≡ values_in (key_columns d.keys 0) row → IsStrictlySortedBy values_cmp (keys_of es) → lookup (is_at (values_cmp k)) es ≡ None → row_refusal d None 1 (values_of es) row ≡ None
    → put_all d None 1 (values_of es) all ≡ puts → all ≡ row ∷ more → put_all d None 1 (values_of (insert_entry values_cmp es k row)) more ≡ puts
put_all_next d es k row more all puts keyed at rises fresh fits rest next =
    ap (λ rows. put_all d None 1 rows more) (values-insert d es k row keyed at rises fresh)
    ∙ sym (put_all-fits d (values_of es) row more fits)
    ∙ ap (put_all d None 1 (values_of es)) (sym next)
    ∙ rest
