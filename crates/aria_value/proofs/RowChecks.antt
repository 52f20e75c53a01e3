-- Which rows a definition has.
use Rattle.std.proofs.Common.{◌≡◌, ◌≢◌, ℕ, suc, ◌+◌, ◌<◌, false, List, [], ◌∷◌, length, drop, get_or, refl, sym, ap, ◌∙◌}
use Rattle.std.proofs.Math.Bool.{and-false}
use Rattle.std.proofs.lemmas.List.Sums.{sum_by-drop_more}
use Rattle.aria_value.specs.declared.value.Value.{Value}
use Rattle.aria_value.specs.declared.definition.Column.{Column}
use Rattle.aria_value.specs.Stored.{value_length, row_length}
use Rattle.aria_value.specs.Rows.{may_hold_all}

-- Columns hold no values of another number.
pub holds_none : (keyed : List ℕ) (nth : ℕ) (columns : List Column) (values : List Value) → length columns ≢ length values → may_hold_all keyed nth columns values ≡ false
holds_none keyed nth [] [] differ = absurd (differ refl)
holds_none keyed nth [] (v ∷ values) differ = refl
holds_none keyed nth (c ∷ columns) [] differ = refl
holds_none keyed nth (c ∷ columns) (v ∷ values) differ =
    rw (holds_none keyed (nth + 1) columns values (λ e. differ (ap suc e))) (and-false _)

-- The length of what is left goes down by the next value.
pub row_length_next : (row : List Value) (i : ℕ) (v : Value) → i < length row → v ≡ get_or row i v → row_length (drop i row) ≡ value_length v + row_length (drop (i + 1) row)
row_length_next row i v low is = sum_by-drop_more value_length row i v low ∙ ap (λ x. value_length x + row_length (drop (i + 1) row)) (sym is)
