-- Numbers of pages and of files.
use Rattle.std.proofs.Common.{◌≡◌, ◌==◌, ◌⊎◌, ℕ, ◌+◌, ◌*◌, ◌/◌, ◌%◌, ◌<◌, ◌≤◌, Bool, true, false, not, refl, arith}
use Rattle.std.specs.Prelude.{IsTrue, min}
use Rattle.std.specs.Ordering.{nat_cmp, ord_min}
use Rattle.std.proofs.lemmas.Bool.{eqb-true}

pub differ_above : (k n : ℕ) → k < n → (k == n) ≡ false
differ_above k n less = grind arith

pub differ_below : (k n : ℕ) → n < k → (k == n) ≡ false
differ_below k n less = grind arith

pub below_or_same : (a b : ℕ) → a ≤ b → (a < b) ⊎ (a ≡ b)
below_or_same a b le = grind arith

pub above_unless_same : (n m : ℕ) → m ≤ n → (n == m) ≡ false → m < n
above_unless_same n m le apart = grind arith

pub below_unless_same : (n m : ℕ) → n ≤ m → (m == n) ≡ false → n < m
below_unless_same n m le apart = grind arith

-- the next page is in the same file, unless it is the first of the next one
pub not_first : (k : ℕ) → ((k + 1) % 1024 == 0) ≡ false → k / 1024 ≡ (k + 1) / 1024
not_first k inside =
    let some : 0 < (k + 1) % 1024 = above_unless_same ((k + 1) % 1024) 0 (omega arith) inside in omega (arith, some)

pub is_first : (k : ℕ) → ((k + 1) % 1024 == 0) ≡ true → (k + 1) / 1024 ≡ k / 1024 + 1
is_first k first = let e : (k + 1) % 1024 ≡ 0 = eqb-true ((k + 1) % 1024) 0 first in omega (arith, e)

-- what isn't done isn't done
pub not_done : (b : Bool) → b ≡ false → IsTrue b → ⊥
not_done true e done = absurd (cc)
not_done false e done = absurd (cc)

pub not_true : (b : Bool) → not b ≡ true → b ≡ false
not_true true e = absurd (cc)
not_true false e = refl

pub not_false : (b : Bool) → not b ≡ false → b ≡ true
not_false true e = refl
not_false false e = absurd (cc)

pub lower_unless_same : (n m : ℕ) → n ≤ m → (n == m) ≡ false → n < m
lower_unless_same n m le apart = grind arith

-- the lesser of two numbers
pub least : (a b : ℕ) → ord_min nat_cmp a b ≡ min a b
least a b = grind arith

pub stops_at : (a b n : ℕ) → min a b ≤ n → (a ≤ n) ⊎ (b ≤ n)
stops_at a b n le = grind arith

-- the file and the page of a place
pub place_file : (f p b place : ℕ) → p < 1024 → b < 8176 → 8176 * (1024 * f + p) + b ≡ place → place / 8176 / 1024 ≡ f
place_file f p b place few small is = omega (arith, few, small, is)

pub place_page : (f p b place : ℕ) → p < 1024 → b < 8176 → 8176 * (1024 * f + p) + b ≡ place → place / 8176 % 1024 ≡ p
place_page f p b place few small is = omega (arith, few, small, is)
