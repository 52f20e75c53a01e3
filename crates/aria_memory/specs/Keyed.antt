-- Rows by the values of their first key.
use Rattle.std.specs.Prelude.{ℕ, Bool, nat_lt, List, length, map}
use Rattle.std.specs.List.{list_all}
use Rattle.std.specs.Ordering.{is_eq}
use Rattle.std.specs.declared.cmp.Ordering.{Ordering}
use Rattle.std.specs.Cmp.Lexicographic.{slice_cmp}
use Rattle.aria_value.specs.declared.value.Value.{Value}
use Rattle.aria_value.specs.declared.definition.Column.{Column}
use Rattle.aria_value.specs.declared.definition.Definition.{Definition}
use Rattle.aria_value.specs.Order.{value_cmp, value_at, key_columns}

-- lists of values by the first in which they differ; a list that begins another comes first
abbrev pub values_cmp : List Value → List Value → Ordering
values_cmp = slice_cmp value_cmp

-- the values of a row in some columns
abbrev pub values_in : List ℕ → List Value → List Value
values_in columns row = map (value_at row) columns

-- the row has these values in the columns of the first key
abbrev pub has_key : Definition → List Value × List Value → Bool
has_key d entry = is_eq (values_cmp entry.0 (values_in (key_columns d.keys 0) entry.1))

-- each row stands at its values in the columns of the first key
abbrev pub are_keyed : Definition → List (List Value × List Value) → Bool
are_keyed d entries = list_all (has_key d) entries

-- each number is that of a column
abbrev pub are_columns_of : List Column → List ℕ → Bool
are_columns_of columns numbers = list_all (λ number. nat_lt number (length columns)) numbers
