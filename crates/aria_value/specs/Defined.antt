-- Which definitions there are.
use Rattle.std.specs.Prelude.{ℕ, zero, suc, ◌+◌, ◌*◌, Bool, true, ◌&&◌, nat_lt, nat_le, ◌==◌, List, [], ◌∷◌, length, sum_by, IsTrue}
use Rattle.std.specs.List.{list_all, AllByRecursion}
use Rattle.aria_page.specs.Word.{is_word}
use Rattle.aria_value.specs.declared.definition.ColumnType.{ColumnType}
use Rattle.aria_value.specs.declared.definition.ColumnType.TheVariants.{Int, Text}
use Rattle.aria_value.specs.declared.definition.Column.{Column}
use Rattle.aria_value.specs.declared.definition.Key.{Key}
use Rattle.aria_value.specs.declared.definition.Definition.{Definition}
use Rattle.aria_value.specs.declared.definition.TheConstants.{MAX_COLUMNS, MAX_KEYS, MAX_ENTRY_BYTES, MAX_TEXT_BYTES, MAX_ROWS}
pub use Rattle.aria_value.specs.Named.{same_name, distinct}
use Rattle.aria_value.specs.Order.{key_columns, order_columns}

-- what a column holds; past the columns it is nothing longer than a number
abbrev pub kind_at : List Column → ℕ → ColumnType
kind_at [] n = Int
kind_at (column ∷ columns) zero = column.kind
kind_at (column ∷ columns) (suc n) = kind_at columns n

-- the longest part that a column adds to an entry of a key, in bytes
abbrev pub longest_part : ColumnType → ℕ
longest_part Int = 9
longest_part (Text n) = 2 * n + 3

-- the longest parts of a key's own columns together, in bytes
abbrev pub longest_parts : Definition → ℕ → ℕ
longest_parts d key = sum_by (λ c. longest_part (kind_at d.columns c)) (key_columns d.keys key)

-- the longest entry of a key, in bytes
abbrev pub longest_entry : Definition → ℕ → ℕ
longest_entry d key = sum_by (λ c. longest_part (kind_at d.columns c)) (order_columns d key)

abbrev pub are_columns : List Column → Bool
are_columns columns = nat_le 1 (length columns) && nat_le (length columns) MAX_COLUMNS && distinct (λ a b. same_name a.name b.name) columns

abbrev pub is_type : ColumnType → Bool
is_type Int = true
is_type (Text n) = nat_le 1 n && nat_le n MAX_TEXT_BYTES

-- a key has columns, each one of the table's and none twice
abbrev pub is_key : List Column → Key → Bool
is_key columns key = nat_le 1 (length key.columns) && list_all (λ c. nat_lt c (length columns)) key.columns && distinct ◌==◌ key.columns

abbrev pub are_keys : List Column → List Key → Bool
are_keys columns keys = nat_le 1 (length keys) && nat_le (length keys) MAX_KEYS && distinct (λ a b. same_name a.name b.name) keys && list_all (is_key columns) keys

-- each key below n has entries that are short enough
abbrev pub entries_fit : Definition → ℕ → Bool
entries_fit d zero = true
entries_fit d (suc n) = entries_fit d n && nat_le (longest_entry d n) MAX_ENTRY_BYTES

-- whether a table may have the definition
abbrev pub is_definition : Definition → Bool
is_definition d =
    nat_le 1 d.max_rows && nat_le d.max_rows MAX_ROWS && are_columns d.columns && list_all (λ column. is_type column.kind) d.columns
    && are_keys d.columns d.keys && entries_fit d (length d.keys)

-- a definition that a table may have
pub record IsDefinition (d : Definition) : Type 0 where
  pub rows : IsTrue (nat_le 1 d.max_rows && nat_le d.max_rows MAX_ROWS)
  pub columns : IsTrue (are_columns d.columns)
  pub types : IsTrue (list_all (λ column. is_type column.kind) d.columns)
  pub keys : IsTrue (are_keys d.columns d.keys)
  pub entries : IsTrue (entries_fit d (length d.keys))

-- each name is a word, as every Name is
pub record HasNames (d : Definition) : Type 0 where
  pub columns : AllByRecursion (λ column. IsTrue (is_word column.name)) d.columns
  pub keys : AllByRecursion (λ key. IsTrue (is_word key.name)) d.keys
