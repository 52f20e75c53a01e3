-- A text between quotes, run by run.
use Rattle.std.specs.Prelude.{◌≡◌, ℕ, zero, suc, ◌+◌, ◌<◌, ◌≤◌, ◌==◌, Bool, true, false, not, nat_lt, cond, List, [], ◌∷◌, ◌++◌, length, take, drop, Some, None, refl}
use Rattle.std.specs.List.{flat_map, position, position_or_len}
use Rattle.std.proofs.Common.{sym, ap, ◌∙◌, arith, get_or, add-one, ltb-false, lt-ltb, le-ltb}
use Rattle.std.proofs.lemmas.List.Quantifiers.{position-Some}
use Rattle.aria_model.specs.Text.{quoted}

abbrev pub is_quote : ℕ → Bool
is_quote b = b == 39

cut : (bytes : List ℕ) (i : ℕ) → i < length bytes → is_quote (get_or bytes i 0) ≡ true → ((k : ℕ) → k < i → is_quote (get_or bytes k 0) ≡ false)
    → flat_map quoted bytes ≡ take i bytes ++ (39 ∷ 39 ∷ flat_map quoted (drop (suc i) bytes))
cut [] i low here before = absurd (omega arith)
cut (b ∷ bytes) zero low here before = rw here refl
cut (b ∷ bytes) (suc i) low here before =
    let first : is_quote b ≡ false = before 0 (omega arith) in
    rw first (ap (λ l. b ∷ l) (cut bytes i (omega arith) here (λ k h. before (suc k) (omega arith))))

pub cut_at : (bytes : List ℕ) (i : ℕ) → position is_quote bytes ≡ Some i → flat_map quoted bytes ≡ take i bytes ++ (39 ∷ 39 ∷ flat_map quoted (drop (i + 1) bytes))
cut_at bytes i found =
    let at = position-Some is_quote bytes i 0 found in
    cut bytes i at.0 at.1 at.2 ∙ ap (λ n. take i bytes ++ (39 ∷ 39 ∷ flat_map quoted (drop n bytes))) (sym (add-one i))

none_step : (same : Bool) (n l : ℕ) → nat_lt (cond (not same) (1 + n) 0) (suc l) ≡ false → (same ≡ false) × (nat_lt n l ≡ false)
none_step true n l none =
    let low : nat_lt 0 (suc l) ≡ true = lt-ltb 0 (suc l) (omega arith) in absurd (cc)
none_step false n l none =
    let past : suc l ≤ 1 + n = ltb-false (1 + n) (suc l) none in
    (refl, le-ltb n l (omega arith))

without : (bytes : List ℕ) → nat_lt (position_or_len is_quote bytes) (length bytes) ≡ false → flat_map quoted bytes ≡ bytes
without [] none = refl
without (b ∷ bytes) none =
    let parts = none_step (is_quote b) (position_or_len is_quote bytes) (length bytes) none in
    rw parts.0 (ap (λ l. b ∷ l) (without bytes parts.1))

none_where : (b : Bool) (n : ℕ) → cond b (Some n) None ≡ None → b ≡ false
none_where true n none = absurd (cc)
none_where false n none = refl

pub without_quote : (bytes : List ℕ) → position is_quote bytes ≡ None → flat_map quoted bytes ≡ bytes
without_quote bytes none = without bytes (none_where (nat_lt (position_or_len is_quote bytes) (length bytes)) (position_or_len is_quote bytes) none)
