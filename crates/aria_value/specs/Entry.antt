-- Entries of keys: bytes whose order is the order of rows.
use Rattle.std.specs.Prelude.{ℕ, ℤ, pos, negsuc, zero, suc, ◌+◌, ◌-◌, ◌^◌, Bool, true, false, ◌&&◌, List, [], ◌∷◌, ◌++◌}
use Rattle.std.specs.List.{flat_map}
use Rattle.aria_page.specs.Number.{number}
use Rattle.aria_value.specs.declared.value.Value.{Value}
use Rattle.aria_value.specs.declared.value.Value.TheVariants.{Null, Int, Text}
use Rattle.aria_value.specs.declared.definition.ColumnType.{ColumnType}
use Rattle.aria_value.specs.declared.definition.ColumnType.TheVariants as types
use Rattle.aria_value.specs.declared.definition.Column.{Column}
use Rattle.aria_value.specs.declared.definition.Definition.{Definition}
use Rattle.aria_value.specs.Order.{value_at, order_columns}
use Rattle.aria_value.specs.Defined.{kind_at}

-- a number and 2^63, so that no number of 64 bits is below zero
abbrev pub raised : ℤ → ℕ
raised (pos n) = n + 2 ^ 63
raised (negsuc n) = 2 ^ 63 - suc n

-- a zero byte is followed by 255, so that it doesn't look like the end of its text
abbrev pub escaped : ℕ → List ℕ
escaped zero = 0 ∷ 255 ∷ []
escaped (suc b) = suc b ∷ []

-- what a value adds to an entry: 0 for null; else 1, and 8 bytes of a number, or a text and two zeros
abbrev pub part : Value → List ℕ
part Null = 0 ∷ []
part (Int n) = 1 ∷ number 8 (raised n)
part (Text bytes) = 1 ∷ (flat_map escaped bytes ++ 0 ∷ 0 ∷ [])

-- the parts of a row in these columns
abbrev pub parts : List Value → List ℕ → List ℕ
parts row columns = flat_map (λ c. part (value_at row c)) columns

-- the entry of a row: the parts of the columns by which the key orders rows
abbrev pub entry_bytes : Definition → ℕ → List Value → List ℕ
entry_bytes d key row = parts row (order_columns d key)

-- what the entries begin with whose rows have these values first
abbrev pub prefix_bytes : List Value → List ℕ
prefix_bytes values = flat_map part values

-- null, or a value of the type
abbrev pub has_type : ColumnType → Value → Bool
has_type kind Null = true
has_type types.Int (Int n) = true
has_type types.Int (Text bytes) = false
has_type (types.Text limit) (Int n) = false
has_type (types.Text limit) (Text bytes) = true

-- values of the first of these columns
abbrev pub have_types : List Column → List ℕ → List Value → Bool
have_types columns cs [] = true
have_types columns [] (v ∷ vs) = false
have_types columns (c ∷ cs) (v ∷ vs) = has_type (kind_at columns c) v && have_types columns cs vs
