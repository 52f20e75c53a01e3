-- Setting each column once, to what it is set to last.
use Rattle.std.specs.Prelude.{◌≡◌, ℕ, zero, suc, ◌+◌, ◌<◌, List, [], ◌∷◌, map, length, drop, Option, Some, None, slice_set, slice_get, refl}
use Rattle.std.specs.Option.{option_map, unwrap_or}
use Rattle.std.proofs.Common.{sym, ap, ◌∙◌, arith, get_or, replicate, drop-cons, add-one}
use Rattle.aria_value.specs.declared.value.Value.{Value}
use Rattle.aria_value.specs.declared.definition.Column.{Column}
use Rattle.aria_model.specs.declared.statement.Setting.{Setting}
use Rattle.aria_model.specs.Step.{set_one, set_row}
use Rattle.aria_memory.specs.LastSet.{with_set}

-- a row of which no column is set
pub nothing_set : {X : Type 0} (f : X → Value) (n : ℕ) (row : List Value) → with_set (map (option_map f) (replicate n None)) row ≡ row
nothing_set f n [] = refl
nothing_set f zero (old ∷ row) = refl
nothing_set f (suc n) (old ∷ row) = ap (λ l. old ∷ l) (nothing_set f n row)

-- one column set
pub one_set : (sets : List (Option Value)) (i : ℕ) (v : Value) (row : List Value) → i < length sets → with_set (slice_set sets i (Some v)) row ≡ slice_set (with_set sets row) i v
one_set sets i v [] low = refl
one_set [] i v (old ∷ row) low = absurd (omega arith)
one_set (set ∷ sets) zero v (old ∷ row) low = refl
one_set (set ∷ sets) (suc i) v (old ∷ row) low = ap (λ l. unwrap_or set old ∷ l) (one_set sets i v row (omega arith))

-- one setting on
pub setting_next : (columns : List Column) (settings : List Setting) (i : ℕ) (s : Setting) (row : List Value) → i < length settings → s ≡ get_or settings i s
    → set_row columns (drop i settings) row ≡ set_row columns (drop (i + 1) settings) (set_one columns s.column s.value row)
setting_next columns settings i s row low is = rw (add-one, drop-cons settings i s, sym is) refl

no_sets : (row : List Value) → with_set [] row ≡ row
no_sets [] = refl
no_sets (old ∷ row) = refl

-- one value on
pub value_next : (sets : List (Option Value)) (row : List Value) (i : ℕ) (old : Value) → i < length row → old ≡ get_or row i old
    → with_set (drop i sets) (drop i row) ≡ unwrap_or (unwrap_or (slice_get sets i) None) old ∷ with_set (drop (suc i) sets) (drop (suc i) row)
value_next sets [] i old low is = absurd (omega arith)
value_next [] (r ∷ row) zero old low is = ap (λ v. v ∷ row) (sym is) ∙ ap (λ l. old ∷ l) (sym (no_sets row))
value_next (set ∷ sets) (r ∷ row) zero old low is = ap (λ v. unwrap_or set v ∷ with_set sets row) (sym is)
value_next [] (r ∷ row) (suc i) old low is =
    let low' : i < length row = omega arith in
    no_sets (drop i row) ∙ drop-cons row i old low' ∙ ap (λ v. v ∷ drop (suc i) row) (sym is) ∙ ap (λ l. old ∷ l) (sym (no_sets (drop (suc i) row)))
value_next (set ∷ sets) (r ∷ row) (suc i) old low is = value_next sets row i old (omega arith) is
