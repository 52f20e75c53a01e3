-- What a statement seeks by a key, one value after another.
use Rattle.std.specs.Prelude.{◌≡◌, ℕ, zero, suc, ◌+◌, ◌<◌, ◌≤◌, true, false, ◌&&◌, cond, nat_lt, List, [], ◌∷◌, length, drop, Some, None, refl}
use Rattle.std.specs.Ordering.{is_eq}
use Rattle.std.proofs.Common.{sym, ap, ◌∙◌, arith, get_or, drop-cons, add-one}
use Rattle.std.proofs.lemmas.List.{drop_all}
use Rattle.std.proofs.lemmas.List.Recursion.{and_at}
use Rattle.std.proofs.lemmas.Bool.{ltb-true}
use Rattle.aria_value.specs.declared.value.Value.{Value}
use Rattle.aria_value.specs.declared.value.Value.TheVariants.{Null}
use Rattle.aria_value.specs.declared.definition.Column.{Column}
use Rattle.aria_value.specs.Defined.{kind_at}
use Rattle.aria_value.specs.Order.{value_cmp, value_at, has_values}
use Rattle.aria_value.specs.Entry.{has_type}
use Rattle.aria_model.specs.Step.{name_at, bad_sought}
use Rattle.aria_memory.specs.Keyed.{are_columns_of}

-- ---- values that may be sought

-- a column by its number
pub column_at : (columns : List Column) (n : ℕ) (column : Column) → n < length columns → get_or columns n column ≡ column
    → (kind_at columns n ≡ column.kind) × (name_at columns n ≡ column.name)
column_at [] n column low is = absurd (omega arith)
column_at (c ∷ cs) zero column low is = (ap (λ x. x.kind) is, ap (λ x. x.name) is)
column_at (c ∷ cs) (suc n) column low is = column_at cs n column (omega arith) is

-- a key with a column has a last one at each value that is left
pub bad_sought-last : (columns : List Column) (a b key : List ℕ) (values : List Value) → 0 < length key → bad_sought columns a key values ≡ bad_sought columns b key values
bad_sought-last columns a b [] values some = absurd (omega arith)
bad_sought-last columns a b (c ∷ cs) [] some = refl
bad_sought-last columns a b (c ∷ cs) (v ∷ vs) some = refl

-- each number is that of a column
pub column_within : (columns : List Column) (key : List ℕ) (nth number : ℕ) → are_columns_of columns key ≡ true → nth < length key → get_or key nth number ≡ number → number < length columns
column_within columns key nth number within low is =
    ltb-true number (length columns)
    (ap (λ n. nat_lt n (length columns)) (sym is) ∙ and_at (are_columns_of columns) (λ n. nat_lt n (length columns)) refl (λ _ _. refl) key nth number low within)

-- no value is left
pub bad_sought-end : (columns : List Column) (last key : List ℕ) (values : List Value) (nth : ℕ) → length values ≤ nth → bad_sought columns last key (drop nth values) ≡ None
bad_sought-end columns last key values nth past = rw (drop_all nth values past) refl

-- no column is left
pub bad_sought-past : (columns : List Column) (last key : List ℕ) (values : List Value) (nth : ℕ) → length key ≤ nth → nth < length values
    → bad_sought columns last (drop nth key) (drop nth values) ≡ Some last
bad_sought-past columns last key values nth past low = rw (drop_all nth key past, drop-cons values nth Null) refl

-- one value in its column, and those that are left
pub bad_sought-next : (columns : List Column) (last key : List ℕ) (values : List Value) (nth number : ℕ) (value : Value) (column : Column)
    → nth < length key → nth < length values → get_or key nth number ≡ number → get_or values nth value ≡ value → number < length columns → get_or columns number column ≡ column
    → bad_sought columns last (drop nth key) (drop nth values)
    ≡ cond (has_type column.kind value) (bad_sought columns column.name (drop (nth + 1) key) (drop (nth + 1) values)) (Some column.name)
bad_sought-next columns last key values nth number value column lowk lowv isk isv lowc isc =
    let at = column_at columns number column lowc isc in
    rw (add-one, drop-cons key nth number, drop-cons values nth value, isk, isv)
    (λ i. cond (has_type (at.0 i) value) (bad_sought columns (at.1 i) (drop (suc nth) key) (drop (suc nth) values)) (Some (at.1 i)))

-- ---- values that a row has

pub has_values-end : (columns : List ℕ) (values row : List Value) (nth : ℕ) → length values ≤ nth → has_values columns (drop nth values) row ≡ true
has_values-end columns values row nth past = rw (drop_all nth values past) refl

pub has_values-past : (columns : List ℕ) (values row : List Value) (nth : ℕ) → length columns ≤ nth → nth < length values → has_values (drop nth columns) (drop nth values) row ≡ false
has_values-past columns values row nth past low = rw (drop_all nth columns past, drop-cons values nth Null) refl

pub has_values-next : (columns : List ℕ) (values row : List Value) (nth column : ℕ) (value : Value)
    → nth < length columns → nth < length values → get_or columns nth column ≡ column → get_or values nth value ≡ value
    → has_values (drop nth columns) (drop nth values) row ≡ (is_eq (value_cmp (value_at row column) value) && has_values (drop (nth + 1) columns) (drop (nth + 1) values) row)
has_values-next columns values row nth column value lowc lowv isc isv =
    rw (add-one, drop-cons columns nth column, drop-cons values nth value, isc, isv) refl
