-- Which rows a definition has.
use Rattle.std.specs.Prelude.{ℕ, ◌+◌, FitsSigned, Bool, true, false, not, ◌&&◌, ◌==◌, nat_le, List, [], ◌∷◌, length, IsTrue}
use Rattle.std.specs.List.{list_any, AllByRecursion}
use Rattle.std.specs.Int.{w64}
use Rattle.aria_value.specs.declared.value.Value.{Value}
use Rattle.aria_value.specs.declared.value.Value.TheVariants as values
use Rattle.aria_value.specs.declared.definition.ColumnType.{ColumnType}
use Rattle.aria_value.specs.declared.definition.ColumnType.TheVariants.{Int, Text}
use Rattle.aria_value.specs.declared.definition.Column.{Column}
use Rattle.aria_value.specs.declared.definition.Definition.{Definition}
use Rattle.aria_value.specs.declared.row.TheConstants.{MAX_ROW_BYTES}
use Rattle.aria_value.specs.Order.{key_columns}
use Rattle.aria_value.specs.Stored.{row_length}

-- a value that a column may hold: null, which a keyed column may not, or one of its type
abbrev pub may_hold : Bool → ColumnType → Value → Bool
may_hold keyed kind values.Null = not keyed
may_hold keyed Int (values.Int n) = true
may_hold keyed Int (values.Text bytes) = false
may_hold keyed (Text limit) (values.Int n) = false
may_hold keyed (Text limit) (values.Text bytes) = nat_le (length bytes) limit

-- one value for each column, which it may hold, the first of them in column nth
abbrev pub may_hold_all : List ℕ → ℕ → List Column → List Value → Bool
may_hold_all keyed nth [] [] = true
may_hold_all keyed nth [] (v ∷ vs) = false
may_hold_all keyed nth (c ∷ cs) [] = false
may_hold_all keyed nth (c ∷ cs) (v ∷ vs) = may_hold (list_any (λ k. k == nth) keyed) c.kind v && may_hold_all keyed (nth + 1) cs vs

-- a row of the definition: the columns of the first key are keyed, and it is short enough as it is stored
abbrev pub is_row : Definition → List Value → Bool
is_row d row = may_hold_all (key_columns d.keys 0) 0 d.columns row && nat_le (row_length row) MAX_ROW_BYTES

-- a number has 64 bits
abbrev pub Fits : Value → Type 0
Fits values.Null = Unit {0}
Fits (values.Int n) = FitsSigned w64 n
Fits (values.Text bytes) = Unit {0}

-- a row of the definition, of numbers that a value has room for
pub record IsRow (d : Definition) (row : List Value) : Type 0 where
  pub fits : AllByRecursion Fits row
  pub is : IsTrue (is_row d row)
