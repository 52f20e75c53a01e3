-- The order of values, and the order that a key gives to rows.
use Rattle.std.specs.Prelude.{ℕ, zero, suc, Bool, true, false, ◌&&◌, List, [], ◌∷◌, ◌++◌, filter, slice_index_or}
use Rattle.std.specs.declared.cmp.Ordering.{Ordering}
use Rattle.std.specs.declared.cmp.Ordering.TheVariants.{Less, Equal, Greater}
use Rattle.std.specs.Ordering.{ordering_then, nat_cmp, int_cmp, is_lt, is_eq, is_gt}
use Rattle.std.specs.Cmp.Lexicographic.{slice_cmp}
use Rattle.aria_value.specs.declared.value.Value.{Value}
use Rattle.aria_value.specs.declared.value.Value.TheVariants.{Null, Int, Text}
use Rattle.aria_value.specs.declared.definition.Key.{Key}
use Rattle.aria_value.specs.declared.definition.Definition.{Definition}

-- null comes first, then numbers by size, then texts by byte
abbrev pub value_cmp : Value → Value → Ordering
value_cmp Null Null = Equal
value_cmp Null (Int b) = Less
value_cmp Null (Text b) = Less
value_cmp (Int a) Null = Greater
value_cmp (Int a) (Int b) = int_cmp a b
value_cmp (Int a) (Text b) = Less
value_cmp (Text a) Null = Greater
value_cmp (Text a) (Int b) = Greater
value_cmp (Text a) (Text b) = slice_cmp nat_cmp a b

-- the value of a row in a column
abbrev pub value_at : List Value → ℕ → Value
value_at row column = slice_index_or row column Null

-- rows by these columns, the first of them first
abbrev pub columns_cmp : List ℕ → List Value → List Value → Ordering
columns_cmp [] a b = Equal
columns_cmp (c ∷ cs) a b = ordering_then (value_cmp (value_at a c) (value_at b c)) (columns_cmp cs a b)

-- the columns of a key
abbrev pub key_columns : List Key → ℕ → List ℕ
key_columns [] n = []
key_columns (key ∷ keys) zero = key.columns
key_columns (key ∷ keys) (suc n) = key_columns keys n

-- the columns by which a key orders rows: its own, and then those of the first key, which is unique
abbrev pub order_columns : Definition → ℕ → List ℕ
order_columns d zero = key_columns d.keys zero
order_columns d (suc n) = key_columns d.keys (suc n) ++ key_columns d.keys zero

-- the order that a key gives to rows
abbrev pub key_cmp : Definition → ℕ → List Value → List Value → Ordering
key_cmp d n = columns_cmp (order_columns d n)

-- the rows with one more in its place: those below it, itself, those above it
abbrev pub put : (List Value → List Value → Ordering) → List Value → List (List Value) → List (List Value)
put cmp row rows = filter (λ r. is_lt (cmp r row)) rows ++ row ∷ filter (λ r. is_gt (cmp r row)) rows

-- the rows in an order
abbrev pub sorted : (List Value → List Value → Ordering) → List (List Value) → List (List Value)
sorted cmp [] = []
sorted cmp (row ∷ rows) = put cmp row (sorted cmp rows)

-- the row has these values in the first of these columns
abbrev pub has_values : List ℕ → List Value → List Value → Bool
has_values cs [] row = true
has_values [] (v ∷ vs) row = false
has_values (c ∷ cs) (v ∷ vs) row = is_eq (value_cmp (value_at row c) v) && has_values cs vs row
