-- The value of digits, up to a greatest number.
use Rattle.std.proofs.Common.{◌≡◌, ℕ, ◌+◌, ◌-◌, ◌*◌, ◌<◌, ◌≤◌, min, List, [], ◌∷◌, length, get_or, drop, drop-cons, add-one, ap, sym, ◌∙◌, arith}
use Rattle.std.proofs.lemmas.List.{drop_all}
use Rattle.aria_model.specs.Token.{digits_value}

-- Values that are the same up to the greatest number stay so with further digits.
pub same_below : (digits : List ℕ) (greatest x y : ℕ) → min x greatest ≡ min y greatest → min (digits_value x digits) greatest ≡ min (digits_value y digits) greatest
same_below [] greatest x y same = same
same_below (d ∷ digits) greatest x y same = same_below digits greatest (10 * x + (d - 48)) (10 * y + (d - 48)) (omega arith)

-- one more digit
pub one_more : (digits : List ℕ) (i x d next greatest : ℕ) → i < length digits → get_or digits i 0 ≡ d → next ≡ min (min (x * 10) greatest + (d - 48)) greatest
    → min (digits_value next (drop (i + 1) digits)) greatest ≡ min (digits_value x (drop i digits)) greatest
one_more digits i x d next greatest low at is =
    let front : drop i digits ≡ d ∷ drop (i + 1) digits = drop-cons digits i 0 low ∙ rw (at, add-one) in
    same_below (drop (i + 1) digits) greatest next (10 * x + (d - 48)) (omega arith) ∙ ap (λ (ds : List ℕ). min (digits_value x ds) greatest) (sym front)

-- no further digit
pub all_digits : (digits : List ℕ) (i value greatest total : ℕ) → length digits ≤ i → value ≤ greatest → min (digits_value value (drop i digits)) greatest ≡ total → value ≡ total
all_digits digits i value greatest total past fits is =
    let none : drop i digits ≡ [] = drop_all i digits past in
    let only : min value greatest ≡ total = ap (λ (ds : List ℕ). min (digits_value value ds) greatest) (sym none) ∙ is in
    omega arith
