-- How rows and definitions are stored.
use Rattle.std.specs.Prelude.{ℕ, ◌+◌, List, [], ◌∷◌, ◌++◌, length, sum_by}
use Rattle.std.specs.List.{flat_map}
use Rattle.std.specs.Int.{w64, cast_unsigned}
use Rattle.aria_page.specs.Number.{number}
use Rattle.aria_page.specs.Text.{counted, name_bytes}
use Rattle.aria_page.specs.Items.{list_bytes}
use Rattle.aria_value.specs.declared.value.Value.{Value}
use Rattle.aria_value.specs.declared.value.Value.TheVariants.{Null, Int, Text}
use Rattle.aria_value.specs.declared.definition.ColumnType.{ColumnType}
use Rattle.aria_value.specs.declared.definition.ColumnType.TheVariants as types
use Rattle.aria_value.specs.declared.definition.Column.{Column}
use Rattle.aria_value.specs.declared.definition.Key.{Key}
use Rattle.aria_value.specs.declared.definition.Definition.{Definition}

-- a byte for the kind; 8 bytes of a number, in two's complement; 4 bytes of length and the bytes of a text
abbrev pub value_bytes : Value → List ℕ
value_bytes Null = 0 ∷ []
value_bytes (Int n) = 1 ∷ number 8 (cast_unsigned w64 n)
value_bytes (Text bytes) = 2 ∷ counted 4 bytes

-- the values one after another
abbrev pub row_bytes : List Value → List ℕ
row_bytes row = flat_map value_bytes row

-- how many bytes a value takes
abbrev pub value_length : Value → ℕ
value_length Null = 1
value_length (Int n) = 9
value_length (Text bytes) = 5 + length bytes

-- how many bytes a row takes
abbrev pub row_length : List Value → ℕ
row_length row = sum_by value_length row

-- how many bytes of text a value has
abbrev pub text_length : Value → ℕ
text_length Null = 0
text_length (Int n) = 0
text_length (Text bytes) = length bytes

-- a byte for the type, and 4 bytes with the limit of a text, which are 0 for a number
abbrev pub type_bytes : ColumnType → List ℕ
type_bytes types.Int = number 1 0 ++ number 4 0
type_bytes (types.Text limit) = number 1 1 ++ number 4 limit

-- its name and its type
abbrev pub column_bytes : Column → List ℕ
column_bytes column = name_bytes column.name ++ type_bytes column.kind

-- its name, a byte with the number of its columns, and a byte for each of them
abbrev pub key_bytes : Key → List ℕ
key_bytes key = name_bytes key.name ++ counted 1 key.columns

-- the columns, the keys, and 4 bytes with the most rows
abbrev pub definition_bytes : Definition → List ℕ
definition_bytes d = list_bytes column_bytes d.columns ++ (list_bytes key_bytes d.keys ++ number 4 d.max_rows)
