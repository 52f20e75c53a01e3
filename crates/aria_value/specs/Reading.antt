-- Reading what is stored, from left to right.
use Rattle.std.specs.Prelude.{ℕ, ℤ, zero, suc, List, [], ◌∷◌, length, Option, Some, None, ◌==◌, ◌&&◌, if◌then◌else◌}
use Rattle.std.specs.Int.{w64, cast_signed}
use Rattle.aria_page.specs.Field.{◌>>=◌}
use Rattle.aria_page.specs.Number.{number_at}
use Rattle.aria_page.specs.Text.{counted_at, name_at}
use Rattle.aria_page.specs.Items.{items_at, list_at}
use Rattle.aria_value.specs.declared.value.Value.{Value}
use Rattle.aria_value.specs.declared.value.Value.TheVariants.{Null, Int, Text}
use Rattle.aria_value.specs.declared.definition.ColumnType.{ColumnType}
use Rattle.aria_value.specs.declared.definition.ColumnType.TheVariants as types
use Rattle.aria_value.specs.declared.definition.Column.{Column}
use Rattle.aria_value.specs.declared.definition.Key.{Key}
use Rattle.aria_value.specs.declared.definition.Definition.{Definition}
use Rattle.aria_value.specs.Rows.{is_row}
use Rattle.aria_value.specs.Defined.{is_definition}

-- a number with its sign, in two's complement, and the bytes after it
unfoldable pub read_int : List ℕ → Option (ℤ × List ℕ)
read_int bytes = do
  n ← number_at 8 bytes
  Some (cast_signed w64 n.0, n.1)

-- a value and the bytes after it
unfoldable pub read_value : List ℕ → Option (Value × List ℕ)
read_value [] = None
read_value (zero ∷ rest) = Some (Null, rest)
read_value (suc zero ∷ rest) = do
  n ← read_int rest
  Some (Int n.0, n.1)
read_value (suc (suc zero) ∷ rest) = do
  text ← counted_at 4 rest
  Some (Text text.0, text.1)
read_value (suc (suc (suc kind)) ∷ rest) = None

-- the row of the definition that the bytes spell, all of the bytes
unfoldable pub read_row : Definition → List ℕ → Option (List Value)
read_row d bytes = do
  row ← items_at read_value (length d.columns) bytes
  if length row.1 == 0 && is_row d row.0 then Some row.0 else None

-- the type that a byte and a limit spell
abbrev pub type_of : ℕ → ℕ → Option ColumnType
type_of zero zero = Some types.Int
type_of zero (suc limit) = None
type_of (suc zero) limit = Some (types.Text limit)
type_of (suc (suc kind)) limit = None

-- a type and the bytes after it
unfoldable pub read_type : List ℕ → Option (ColumnType × List ℕ)
read_type bytes = do
  kind ← number_at 1 bytes
  limit ← number_at 4 kind.1
  type ← type_of kind.0 limit.0
  Some (type, limit.1)

-- a column and the bytes after it
unfoldable pub read_column : List ℕ → Option (Column × List ℕ)
read_column bytes = do
  name ← name_at bytes
  type ← read_type name.1
  Some (record { name = name.0; kind = type.0 }, type.1)

-- a key and the bytes after it
unfoldable pub read_key : List ℕ → Option (Key × List ℕ)
read_key bytes = do
  name ← name_at bytes
  columns ← counted_at 1 name.1
  Some (record { name = name.0; columns = columns.0 }, columns.1)

-- the parts of a definition and the bytes after them
unfoldable pub read_parts : List ℕ → Option (Definition × List ℕ)
read_parts bytes = do
  columns ← list_at read_column bytes
  keys ← list_at read_key columns.1
  max_rows ← number_at 4 keys.1
  Some (record { columns = columns.0; keys = keys.0; max_rows = max_rows.0 }, max_rows.1)

-- the definition that the bytes spell, all of the bytes
unfoldable pub read_definition : List ℕ → Option Definition
read_definition bytes = do
  read ← read_parts bytes
  if length read.1 == 0 && is_definition read.0 then Some read.0 else None
