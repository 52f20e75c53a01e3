-- Octal digits of a number, and a number with another digit in one place.
use Rattle.std.proofs.Common.{◌≡◌, ◌≢◌, ℕ, zero, suc, ◌+◌, ◌-◌, ◌*◌, ◌/◌, ◌%◌, ◌^◌, ◌<◌, ◌≤◌, refl, ap, ◌∙◌, arith}
use Rattle.std.proofs.Math.Nat.{pow-suc}
use Rattle.std.proofs.lemmas.Nat.{shr-shr, pow-add, one_shl}
use Rattle.aria_bitmap.specs.Pattern.{digit}

-- a digit by shifting
pub digit-shift : (k g : ℕ) → digit k g ≡ g / 2 ^ (3 * k) % 8
unfolding digit
digit-shift zero g = omega arith
digit-shift (suc k) g =
    let more : 3 + 3 * k ≡ 3 * suc k = omega arith in
    digit-shift k (g / 8) ∙ ap (λ (x : ℕ). x % 8) (shr-shr g 3 (3 * k) ∙ ap (λ (n : ℕ). g / 2 ^ n) more)

-- a digit is below 8
pub digit-lt : (k g : ℕ) → digit k g < 8
unfolding digit
digit-lt zero g = omega arith
digit-lt (suc k) g = digit-lt k (g / 8)

-- the number with c in the place of digit k
pub put_digit : ℕ → ℕ → ℕ → ℕ
put_digit zero c g = g / 8 * 8 + c
put_digit (suc k) c g = put_digit k c (g / 8) * 8 + g % 8

-- what is left of a number with its lowest digit put
behind : (x y : ℕ) → y < 8 → (x * 8 + y) / 8 ≡ x
behind x y lt = omega arith

-- digit k is the one that was put
pub digit-put_here : (k c g : ℕ) → c < 8 → digit k (put_digit k c g) ≡ c
unfolding digit put_digit
digit-put_here zero c g lt = omega arith
digit-put_here (suc k) c g lt = ap (digit k) (behind (put_digit k c (g / 8)) (g % 8) (omega arith)) ∙ digit-put_here k c (g / 8) lt

-- the others are as they were
pub digit-put_other : (j k c g : ℕ) → c < 8 → j ≢ k → digit j (put_digit k c g) ≡ digit j g
unfolding digit put_digit
digit-put_other zero zero c g lt ne = absurd (ne refl)
digit-put_other zero (suc k) c g lt ne = omega arith
digit-put_other (suc j) zero c g lt ne = ap (digit j) (behind (g / 8) c lt)
digit-put_other (suc j) (suc k) c g lt ne =
    ap (digit j) (behind (put_digit k c (g / 8)) (g % 8) (omega arith))
    ∙ digit-put_other j k c (g / 8) lt (λ (e : j ≡ k). ne (ap (λ (n : ℕ). suc n) e))

-- it has no more digits than before
put_digit-lt : (n k c g : ℕ) → k < n → c < 8 → g < 8 ^ n → put_digit k c g < 8 ^ n
unfolding put_digit
put_digit-lt zero k c g low lt fits = absurd (omega arith)
put_digit-lt (suc n) zero c g low lt fits =
    let size : 8 ^ suc n ≡ 8 ^ n * 8 = pow-suc 8 n in
    omega arith
put_digit-lt (suc n) (suc k) c g low lt fits =
    let size : 8 ^ suc n ≡ 8 ^ n * 8 = pow-suc 8 n in
    let rest : put_digit k c (g / 8) < 8 ^ n = put_digit-lt n k c (g / 8) (omega arith) lt (omega arith) in
    omega arith

-- the old digit goes out and the new one comes in
put_digit-sum : (k c g : ℕ) → put_digit k c g + digit k g * 2 ^ (3 * k) ≡ g + c * 2 ^ (3 * k)
unfolding digit put_digit
put_digit-sum zero c g = omega arith
put_digit-sum (suc k) c g =
    let more : 3 * suc k ≡ 3 * k + 3 = omega arith in
    let unit : 2 ^ (3 * suc k) ≡ 2 ^ (3 * k) * 8 = ap (λ (n : ℕ). 2 ^ n) more ∙ pow-add 2 (3 * k) 3 in
    let rest = put_digit-sum k c (g / 8) in
    rw unit (omega arith)

-- zero has no digit but zeros
digit-nothing : (k : ℕ) → digit k 0 ≡ 0
unfolding digit
digit-nothing zero = refl
digit-nothing (suc k) = digit-nothing k

-- a digit d of a group of eight is replaced, where u is the digit's unit
pub record Replaces (k c d u g : ℕ) : Type 0 where
  pub low : d * u ≤ g
  pub high : c * u < 2 ^ 24
  pub is : g - d * u + c * u ≡ put_digit k c g
  pub fits : put_digit k c g < 2 ^ 24

pub replaces : (k c d u g : ℕ) → k < 8 → c < 8 → g < 2 ^ 24 → d ≡ digit k g → u ≡ 1 * 2 ^ (3 * k) % 4294967296 → Replaces k c d u g
replaces k c d u g low lt fits ed eu =
    let unit : u ≡ 2 ^ (3 * k) = eu ∙ one_shl (3 * k) 32 (omega arith) in
    let out : d * u ≡ digit k g * 2 ^ (3 * k) = cc in
    let into : c * u ≡ c * 2 ^ (3 * k) = cc in
    let sum = put_digit-sum k c g in
    let none = put_digit-sum k 0 g in
    let alone : put_digit k c 0 + 0 * 2 ^ (3 * k) ≡ 0 + c * 2 ^ (3 * k) = rw digit-nothing at (put_digit-sum k c 0) in
    let small : put_digit k c 0 < 2 ^ 24 = put_digit-lt 8 k c 0 low lt (omega arith) in
    record {
      low = omega arith;
      high = omega arith;
      is = omega arith;
      fits = put_digit-lt 8 k c g low lt fits;
    }
