-- A row's values in the columns of a table.
use Rattle.std.proofs.Common.{◌≡◌, ℕ, ◌<◌, ◌≤◌, ◌+◌, ◌==◌, ◌&&◌, Bool, true, false, cond, nat_lt, nat_le, List, [], ◌∷◌, length, drop, Option, Some, None, refl, sym, ◌∙◌, get_or, drop-cons, ltb-false, le-leb}
use Rattle.std.specs.Prelude.{IsTrue}
use Rattle.std.specs.List.{list_any}
use Rattle.std.proofs.lemmas.Bool.{and_from}
use Rattle.std.proofs.lemmas.List.{drop_all}
use Rattle.aria_value.specs.declared.value.Value.{Value}
use Rattle.aria_value.specs.declared.value.Value.TheVariants.{Null}
use Rattle.aria_value.specs.declared.definition.Column.{Column}
use Rattle.aria_value.specs.declared.definition.Definition.{Definition}
use Rattle.aria_value.specs.Order.{key_columns}
use Rattle.aria_value.specs.Rows.{may_hold, may_hold_all, is_row}
use Rattle.aria_value.specs.Stored.{row_length}
use Rattle.aria_model.specs.declared.refusal.Refusal.{Refusal}
use Rattle.aria_model.specs.declared.refusal.Refusal.TheVariants.{RowTooLong}
use Rattle.aria_model.specs.Step.{bad_column, bad_value, first_of, refused_where}
use Rattle.aria_table.specs.Refusing.{unfit}

-- the first column without a value
pub none_here : (keyed : List ℕ) (nth : ℕ) (last : List ℕ) (columns : List Column) (row : List Value) (c : Column)
    → nth < length columns → length row ≤ nth → get_or columns nth c ≡ c → bad_column keyed nth last (drop nth columns) (drop nth row) ≡ Some c.name
none_here keyed nth last columns row c low past column =
    rw (drop-cons columns nth c, column, drop_all nth row past) refl

-- values behind the last column
pub left_over : (keyed : List ℕ) (nth : ℕ) (last : List ℕ) (columns : List Column) (row : List Value) → length columns ≤ nth → nth < length row
    → bad_column keyed nth last (drop nth columns) (drop nth row) ≡ Some last
left_over keyed nth last columns row past low = rw (drop_all nth columns past, drop-cons row nth Null) refl

-- ---- a row that isn't refused

held_on : (holds : Bool) (name : List ℕ) (bad : Option (List ℕ)) (rest : Bool) → cond holds bad (Some name) ≡ None → (bad ≡ None → rest ≡ true) → (holds && rest) ≡ true
held_on true name bad rest is all = all is
held_on false name bad rest is all = absurd (cc)

all_held : (keyed : List ℕ) (nth : ℕ) (last : List ℕ) (columns : List Column) (row : List Value) → bad_column keyed nth last columns row ≡ None → may_hold_all keyed nth columns row ≡ true
all_held keyed nth last [] [] is = refl
all_held keyed nth last [] (v ∷ vs) is = absurd (cc)
all_held keyed nth last (c ∷ cs) [] is = absurd (cc)
all_held keyed nth last (c ∷ cs) (v ∷ vs) is =
    held_on (may_hold (list_any (λ k. k == nth) keyed) c.kind v) c.name (bad_column keyed (nth + 1) c.name cs vs) (may_hold_all keyed (nth + 1) cs vs) is (all_held keyed (nth + 1) c.name cs vs)

passes_both : (bad : Option (List ℕ)) (long : Bool) → first_of (bad_value bad ∷ refused_where long RowTooLong ∷ []) ≡ None → (bad ≡ None) × (long ≡ false)
passes_both (Some name) long is = absurd (cc)
passes_both None true is = absurd (cc)
passes_both None false is = (refl, refl)

short_enough : (limit n : ℕ) → nat_lt limit n ≡ false → nat_le n limit ≡ true
short_enough limit n is = le-leb n limit (ltb-false limit n is)

-- it is one of the definition's
pub is_fit : (d : Definition) (row : List Value) (r : Option Refusal) → r ≡ unfit d row → r ≡ None → IsTrue (is_row d row)
is_fit d row r is none =
    let passes = passes_both (bad_column (key_columns d.keys 0) 0 [] d.columns row) (nat_lt 65536 (row_length row)) (sym is ∙ none) in
    and_from (may_hold_all (key_columns d.keys 0) 0 d.columns row) (nat_le (row_length row) 65536) (all_held (key_columns d.keys 0) 0 [] d.columns row passes.0) (short_enough 65536 (row_length row) passes.1)
