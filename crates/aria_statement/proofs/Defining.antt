-- What the loops over columns and keys find.
use Rattle.std.proofs.Common.{◌≡◌, ℕ, ℤ, List, [], ◌∷◌, length, map, Option, Some, None, Result, Err, Bool, true, false, not, ◌&&◌, nat_le, cond, if◌then◌else◌, refl, sym, ap, ◌∙◌}
use Rattle.std.specs.List.{list_all, list_any}
use Rattle.std.proofs.lemmas.List.{length-map}
use Rattle.aria_value.specs.declared.definition.Column.{Column}
use Rattle.aria_value.specs.declared.definition.Key.{Key}
use Rattle.aria_value.specs.declared.definition.Definition.{Definition}
use Rattle.aria_value.specs.Defined.{same_name, distinct, is_type}
use Rattle.aria_model.specs.declared.refusal.Refusal.{Refusal}
use Rattle.aria_model.specs.declared.refusal.Refusal.TheVariants.{BadDefinition}
use Rattle.aria_model.specs.declared.refusal.Which.TheVariants.{Packed, MaxRows, Columns, Kind, Keys}
use Rattle.aria_model.specs.Grammar.{WrittenColumn, WrittenKey, TableKind, natural_of, type_of, is_packed, is_spatial, is_fulltext, column_number, onto_numbers, column_numbers, onto_keys, keys_of, unless_bad, defined_with, defined}
use Rattle.aria_statement.specs.declared.written.WrittenColumn.{WrittenColumn as FoundColumn}
use Rattle.aria_statement.specs.declared.written.WrittenKey.{WrittenKey as FoundKey}
use Rattle.aria_statement.specs.Writing.{column_seen, special_seen, key_seen}
use Rattle.aria_statement.specs.Defining.{up_to, column_of, columns_if, with_keys, with_columns, are_good_columns, with_rows}
use Rattle.aria_statement.proofs.Collected.{onto, collected}
use Rattle.aria_statement.proofs.Mapped.{any_of, distinct_of}

onto_numbers_is : (o : Option ℕ) (ns : Option (List ℕ)) → onto_numbers o ns ≡ onto o ns
onto_numbers_is None ns = refl
onto_numbers_is (Some n) None = refl
onto_numbers_is (Some n) (Some ns) = refl

pub numbers_collected : (columns : List WrittenColumn) (names : List (List ℕ)) → column_numbers columns names ≡ collected (column_number columns) names
numbers_collected columns [] = refl
numbers_collected columns (n ∷ names) = onto_numbers_is (column_number columns n) (column_numbers columns names) ∙ ap (onto (column_number columns n)) (numbers_collected columns names)

-- a key of these columns, if there are all
abbrev pub named : List ℕ → Option (List ℕ) → Option Key
named name None = None
named name (Some columns) = Some (record { name = name; columns = columns })

abbrev pub key_if : List WrittenColumn → FoundKey → Option Key
key_if columns key = named key.name (column_numbers columns key.columns)

onto_keys_is : (name : List ℕ) (o : Option (List ℕ)) (keys : Option (List Key)) → onto_keys name o keys ≡ onto (named name o) keys
onto_keys_is name None keys = refl
onto_keys_is name (Some columns) None = refl
onto_keys_is name (Some columns) (Some keys) = refl

pub keys_collected : (columns : List WrittenColumn) (keys : List FoundKey) → keys_of columns (map key_seen keys) ≡ collected (key_if columns) keys
keys_collected columns [] = refl
keys_collected columns (k ∷ keys) = onto_keys_is k.name (column_numbers columns k.columns) (keys_of columns (map key_seen keys)) ∙ ap (onto (key_if columns k)) (keys_collected columns keys)

-- a column, if it has a type
abbrev pub column_if : WrittenColumn → Option Column
column_if c = if is_type (type_of c.1) then Some (column_of c) else None

abbrev pub found_column : FoundColumn → Option Column
found_column c = column_if (column_seen c)

onto_columns : (b c : Bool) (x : Column) (xs : List Column) → cond (b && c) (Some (x ∷ xs)) None ≡ onto (cond b (Some x) None) (cond c (Some xs) None)
onto_columns true true x xs = refl
onto_columns true false x xs = refl
onto_columns false c x xs = refl

pub columns_collected : (columns : List FoundColumn) → columns_if (map column_seen columns) ≡ collected found_column columns
columns_collected [] = refl
columns_collected (c ∷ columns) =
    onto_columns (is_type (type_of (column_seen c).1)) (list_all (λ c. is_type (type_of c.1)) (map column_seen columns)) (column_of (column_seen c)) (map column_of (map column_seen columns))
    ∙ ap (onto (found_column c)) (columns_collected columns)

-- ---- what a key is besides

pub spatial_is : (keys : List FoundKey) → list_any (λ k. is_spatial (special_seen k.special)) keys ≡ list_any (λ k. is_spatial k.special) (map key_seen keys)
spatial_is keys = any_of (λ k. is_spatial k.special) key_seen keys

pub fulltext_is : (keys : List FoundKey) → list_any (λ k. is_fulltext (special_seen k.special)) keys ≡ list_any (λ k. is_fulltext k.special) (map key_seen keys)
fulltext_is keys = any_of (λ k. is_fulltext k.special) key_seen keys

pub ruleset specials_are = (spatial_is, fulltext_is)

-- ---- columns that are few enough, and distinct

pub good_columns_is : (columns : List FoundColumn) → (nat_le (length columns) 32 && distinct (λ a b. same_name a.name b.name) columns) ≡ are_good_columns (map column_seen columns)
good_columns_is columns =
    ap (λ n. nat_le n 32 && distinct (λ a b. same_name a.name b.name) columns) (sym (length-map columns column_seen))
    ∙ ap (λ b. nat_le (length (map column_seen columns)) 32 && b) (distinct_of (λ (a b : WrittenColumn). same_name a.0 b.0) column_seen columns)

-- ---- the tests one after another

-- the columns' types
types_is : (b : Bool) (rows : ℕ) (columns : List WrittenColumn) (written : List WrittenKey) (rest : Result Definition Refusal)
    → rest ≡ with_keys rows (map column_of columns) written (keys_of columns written) → unless_bad b Kind rest ≡ with_columns rows columns written (cond b (Some (map column_of columns)) None)
types_is true rows columns written rest same = same
types_is false rows columns written rest same = refl

-- the keys' columns
keys_is : (kind : TableKind) (rows : ℤ) (columns : List WrittenColumn) (written : List WrittenKey) (o : Option (List Key))
    → elim o as (λ o'. Result Definition Refusal) [ None ↦ Err (BadDefinition Keys) | Some found ↦ defined_with kind rows columns written found ] ≡ with_keys (natural_of rows) (map column_of columns) written o
keys_is kind rows columns written None = refl
keys_is kind rows columns written (Some found) = refl

-- the number of rows
rows_is : (b : Bool) (rows : ℕ) (columns : List WrittenColumn) (written : List WrittenKey) → unless_bad b MaxRows (with_rows columns written (Some rows)) ≡ with_rows columns written (cond b (Some rows) None)
rows_is true rows columns written = refl
rows_is false rows columns written = refl

pub defined_is : (kind : TableKind) (rows : ℤ) (columns : List WrittenColumn) (written : List WrittenKey)
    → unless_bad (not (is_packed kind)) Packed (with_rows columns written (up_to 16777216 rows)) ≡ defined kind rows columns written
defined_is kind rows columns written =
    let types = types_is (list_all (λ c. is_type (type_of c.1)) columns) (natural_of rows) columns written _ (keys_is kind rows columns written (keys_of columns written)) in
    ap (unless_bad (not (is_packed kind)) Packed)
    (sym (rows_is (nat_le 1 (natural_of rows) && nat_le (natural_of rows) 16777216) (natural_of rows) columns written)
    ∙ ap (λ (rest : Result Definition Refusal). unless_bad (nat_le 1 (natural_of rows) && nat_le (natural_of rows) 16777216) MaxRows (unless_bad (are_good_columns columns) Columns rest)) (sym types))
