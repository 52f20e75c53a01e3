-- Codes that are looked for.
use Rattle.std.proofs.Common.{◌≡◌, ℕ, zero, suc, ◌*◌, ◌/◌, ◌%◌, ◌^◌, ◌<◌, ◌≤◌, Bool, true, false, List, get_or, refl, ap, ◌∙◌, arith}
use Rattle.std.specs.Prelude.{◌||◌}
use Rattle.std.proofs.Math.Bool.{or_assoc}
use Rattle.aria_bitmap.specs.Pattern.{digit, group, pattern}
use Rattle.aria_bitmap.specs.Sought.{OfPairs, any_sought}

-- neither of two tests that don't hold together
or_false : (a b : Bool) → (a || b) ≡ false → (a ≡ false) × (b ≡ false)
or_false false b e = (refl, e)
or_false true b e = absurd cc

-- where none of the lowest digits is sought, each of them isn't
none_sought : (codes : List Bool) (n g : ℕ) → any_sought codes n g ≡ false → (k : ℕ) → k < n → get_or codes (digit k g) false ≡ false
unfolding any_sought digit
none_sought codes zero g none k lt = absurd (omega arith)
none_sought codes (suc n) g none zero lt = (or_false (get_or codes (g % 8) false) (any_sought codes n (g / 8)) none).0
none_sought codes (suc n) g none (suc k) lt = none_sought codes n (g / 8) (or_false (get_or codes (g % 8) false) (any_sought codes n (g / 8)) none).1 k (omega arith)

-- two lowest digits by their pair, and the others
pair-others : (codes pairs : List Bool) → OfPairs codes pairs → (n g x rest : ℕ) → x ≡ g % 64 → rest ≡ g / 64
    → (get_or pairs x false || any_sought codes n rest) ≡ any_sought codes (suc (suc n)) g
unfolding any_sought
pair-others codes pairs of n g x rest ex er =
    let first : x % 8 ≡ g % 8 = omega arith in
    let second : x / 8 ≡ g / 8 % 8 = omega arith in
    let last : rest ≡ g / 8 / 8 = omega arith in
    ap (λ (b : Bool). b || any_sought codes n rest) (of x (omega arith))
    ∙ or_assoc (get_or codes (x % 8) false) (get_or codes (x / 8) false) (any_sought codes n rest)
    ∙ cc

-- one of four tests holds
four : (a b c d : Bool) → (((a || b) || c) || d) ≡ (a || (b || (c || (d || false))))
four true b c d = refl
four false true c d = refl
four false false true d = refl
four false false false true = refl
four false false false false = refl

-- eight digits by their four pairs
pub by_pairs : (codes pairs : List Bool) → OfPairs codes pairs → (g : ℕ) → g < 2 ^ 24
    → (((get_or pairs (g % 64) false || get_or pairs (g / 64 % 64) false) || get_or pairs (g / 4096 % 64) false) || get_or pairs (g / 262144) false) ≡ any_sought codes 8 g
unfolding any_sought
by_pairs codes pairs of g fits =
    let a : Bool = get_or pairs (g % 64) false in
    let b : Bool = get_or pairs (g / 64 % 64) false in
    let c : Bool = get_or pairs (g / 4096 % 64) false in
    let d : Bool = get_or pairs (g / 262144) false in
    four a b c d
    ∙ ap (λ (t : Bool). a || (b || (c || t))) (pair-others codes pairs of 0 (g / 262144) (g / 262144) 0 (omega arith) (omega arith))
    ∙ ap (λ (t : Bool). a || (b || t)) (pair-others codes pairs of 2 (g / 4096) (g / 4096 % 64) (g / 262144) refl (omega arith))
    ∙ ap (λ (t : Bool). a || t) (pair-others codes pairs of 4 (g / 64) (g / 64 % 64) (g / 4096) refl (omega arith))
    ∙ pair-others codes pairs of 6 g (g % 64) (g / 64) refl refl

-- none of the patterns of groups that have none
pub none_past : (codes : List Bool) (body : List ℕ) (n end : ℕ) → n % 8 ≡ 0
    → ((g : ℕ) → n / 8 ≤ g → g < end → any_sought codes 8 (group body g) ≡ false)
    → (m : ℕ) → n ≤ m → m < 8 * end → get_or codes (pattern body m) false ≡ false
unfolding pattern
none_past codes body n end whole none m low high =
    none_sought codes 8 (group body (m / 8)) (none (m / 8) (omega arith) (omega arith)) (m % 8) (omega arith)
