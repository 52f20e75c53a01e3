-- Parts of the test of a definition.
use Rattle.std.specs.Prelude.{ℕ, ℤ, Bool, not, ◌&&◌, nat_le, if◌then◌else◌, List, length, map, Option, Some, None, Result, Ok, Err}
use Rattle.std.specs.List.{list_all, list_any}
use Rattle.aria_value.specs.declared.definition.ColumnType.{ColumnType}
use Rattle.aria_value.specs.declared.definition.Column.{Column}
use Rattle.aria_value.specs.declared.definition.Key.{Key}
use Rattle.aria_value.specs.declared.definition.Definition.{Definition}
use Rattle.aria_value.specs.Defined.{same_name, distinct, is_type, are_keys, entries_fit}
use Rattle.aria_model.specs.declared.refusal.Which.TheVariants.{MaxRows, Columns, Kind, Keys, Spatial, Fulltext, Entry}
use Rattle.aria_model.specs.declared.refusal.Refusal.{Refusal}
use Rattle.aria_model.specs.declared.refusal.Refusal.TheVariants.{BadDefinition}
use Rattle.aria_model.specs.Grammar.{WrittenType, WrittenColumn, WrittenKey, natural_of, type_of, is_spatial, is_fulltext, keys_of, unless_bad}

-- the number, if it is from 1 to the greatest
abbrev pub up_to : ℕ → ℤ → Option ℕ
up_to greatest n = if nat_le 1 (natural_of n) && nat_le (natural_of n) greatest then Some (natural_of n) else None

-- the type, if there is one
abbrev pub type_if : WrittenType → Option ColumnType
type_if kind = if is_type (type_of kind) then Some (type_of kind) else None

-- a written column as one of a table
abbrev pub column_of : WrittenColumn → Column
column_of c = record { name = c.0; kind = type_of c.1 }

-- the columns, if each has a type
abbrev pub columns_if : List WrittenColumn → Option (List Column)
columns_if columns = if list_all (λ c. is_type (type_of c.1)) columns then Some (map column_of columns) else None

-- the definition, if its keys are good ones
abbrev pub tested : Definition → List WrittenKey → Result Definition Refusal
tested d written =
    unless_bad (are_keys d.columns d.keys) Keys
    (unless_bad (not (list_any (λ k. is_spatial k.special) written)) Spatial
    (unless_bad (not (list_any (λ k. is_fulltext k.special) written)) Fulltext
    (unless_bad (entries_fit d (length d.keys)) Entry (Ok d))))

-- the definition of these columns, with keys whose columns are there
abbrev pub with_keys : ℕ → List Column → List WrittenKey → Option (List Key) → Result Definition Refusal
with_keys rows columns written None = Err (BadDefinition Keys)
with_keys rows columns written (Some keys) = tested (record { columns = columns; keys = keys; max_rows = rows }) written

-- the definition of columns that have types
abbrev pub with_columns : ℕ → List WrittenColumn → List WrittenKey → Option (List Column) → Result Definition Refusal
with_columns rows columns written None = Err (BadDefinition Kind)
with_columns rows columns written (Some typed) = with_keys rows typed written (keys_of columns written)

-- the columns are few enough, and none stands twice
abbrev pub are_good_columns : List WrittenColumn → Bool
are_good_columns columns = nat_le (length columns) 32 && distinct (λ a b. same_name a.0 b.0) columns

-- the definition of a good number of rows
abbrev pub with_rows : List WrittenColumn → List WrittenKey → Option ℕ → Result Definition Refusal
with_rows columns written None = Err (BadDefinition MaxRows)
with_rows columns written (Some rows) = unless_bad (are_good_columns columns) Columns (with_columns rows columns written (columns_if columns))
