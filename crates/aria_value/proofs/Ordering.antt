-- The order of rows is total, and stored numbers are in the order of their bytes.
use Rattle.std.proofs.Common.{◌≡◌, ℕ, zero, suc, ◌+◌, ◌*◌, ◌/◌, ◌%◌, ◌^◌, ◌<◌, ◌≤◌, List, [], ◌∷◌, ◌++◌, length, refl, sym, ap, ◌∙◌, arith, inl, inr}
use Rattle.std.proofs.Math.Arith.{mod-mul}
use Rattle.std.proofs.Math.Nat.{add-mul, div-one, mod-eq_of_lt, mod-lt, mul-le-mul_right, one-le-pow, pow-succ'}
use Rattle.std.proofs.lemmas.Bool.{cases_order}
use Rattle.std.proofs.lemmas.Cmp.{then_total, on_total}
use Rattle.std.specs.Cmp.{IsTotalOrder, nat_cmp_is}
use Rattle.std.specs.Cmp.Lexicographic.{slice_cmp}
use Rattle.std.specs.Int.{byte_at, bytes_high_first}
use Rattle.std.specs.Ordering.{ordering_then, nat_cmp}
use Rattle.std.specs.declared.cmp.Ordering.{Ordering}
use Rattle.std.specs.declared.cmp.Ordering.TheVariants.{Less, Equal, Greater}
use Rattle.aria_page.specs.Number.{number}
use Rattle.aria_value.specs.declared.definition.Definition.{Definition}
use Rattle.aria_value.specs.ValueOrder.{value_total}
use Rattle.aria_value.specs.Order.{value_at, columns_cmp, order_columns, key_cmp}

-- ---- one comparison after another

pub then_assoc : (a b c : Ordering) → ordering_then a (ordering_then b c) ≡ ordering_then (ordering_then a b) c
then_assoc Less b c = refl
then_assoc Equal b c = refl
then_assoc Greater b c = refl

-- ---- rows

pub columns_cmp_total : (columns : List ℕ) → IsTotalOrder (columns_cmp columns)
columns_cmp_total [] = record { antisymm = λ x y. refl; trans = λ x y z p q. absurd cc; congr = λ x y z e. refl }
columns_cmp_total (c ∷ columns) = then_total (on_total (λ row. value_at row c) value_total) (columns_cmp_total columns)

pub key_cmp_total : (d : Definition) (n : ℕ) → IsTotalOrder (key_cmp d n)
key_cmp_total d n = columns_cmp_total (order_columns d n)

-- ---- numbers

pub cmp_less : (a b : ℕ) → a < b → nat_cmp a b ≡ Less
cmp_less a b h = sym (nat_cmp_is a b Less h)

pub cmp_same : (a : ℕ) → nat_cmp a a ≡ Equal
cmp_same a = sym (nat_cmp_is a a Equal refl)

pub cmp_greater : (a b : ℕ) → b < a → nat_cmp a b ≡ Greater
cmp_greater a b h = sym (nat_cmp_is a b Greater h)

-- the higher digit is above all that the lower ones may be
below : (x y r s m : ℕ) → x < y → r < m → x * m + r < y * m + s
below x y r s m lt hr =
    let step : (x + 1) * m ≤ y * m = mul-le-mul_right m (omega arith) in
    let expand : (x + 1) * m ≡ x * m + 1 * m = add-mul x 1 m in
    omega arith

-- what is added to both changes nothing
moved : (k r s : ℕ) → nat_cmp (k + r) (k + s) ≡ nat_cmp r s
moved k r s =
    elim (cases_order r s) [
      | inl e ↦ rw e (cmp_same (k + s) ∙ sym (cmp_same s))
      | inr (inl lt) ↦ cmp_less (k + r) (k + s) (omega arith) ∙ sym (cmp_less r s lt)
      | inr (inr gt) ↦ cmp_greater (k + r) (k + s) (omega arith) ∙ sym (cmp_greater r s gt)
    ]

-- numbers of two digits, the higher one first
digits_cmp : (x y r s m : ℕ) → r < m → s < m → nat_cmp (x * m + r) (y * m + s) ≡ ordering_then (nat_cmp x y) (nat_cmp r s)
digits_cmp x y r s m hr hs =
    elim (cases_order x y) [
      | inl e ↦ rw (e, cmp_same y) (moved (y * m) r s)
      | inr (inl lt) ↦ rw (cmp_less x y lt) (cmp_less (x * m + r) (y * m + s) (below x y r s m lt hr))
      | inr (inr gt) ↦ rw (cmp_greater x y gt) (cmp_greater (x * m + r) (y * m + s) (below y x s r m gt hs))
    ]

above_zero : (n : ℕ) → 0 < 256 ^ n
above_zero n = let h = one-le-pow n 256 (omega arith) in omega arith

-- a byte of a number, by its place
byte_at-pow : (n x : ℕ) → byte_at n x ≡ x / 256 ^ n % 256
byte_at-pow zero x = ap (λ (y : ℕ). y % 256) (sym (div-one x))
byte_at-pow (suc n) x = refl

-- the highest byte of a number, and what is below it
split : (n x : ℕ) → x % 256 ^ suc n ≡ byte_at n x * 256 ^ n + x % 256 ^ n
split n x =
    ap (λ (p : ℕ). x % p) (pow-succ' 256 n)
    ∙ mod-mul x {m = 256} {c = 256 ^ n} (omega arith) (above_zero n)
    ∙ ap (λ (b : ℕ). b * 256 ^ n + x % 256 ^ n) (sym (byte_at-pow n x))

low : (n x : ℕ) → x % 256 ^ n < 256 ^ n
low n x = mod-lt x (above_zero n)

bytes_cmp : (n a b : ℕ) → slice_cmp nat_cmp (bytes_high_first n a) (bytes_high_first n b) ≡ nat_cmp (a % 256 ^ n) (b % 256 ^ n)
bytes_cmp zero a b =
    let ea : a % 1 ≡ 0 = omega arith in
    let eb : b % 1 ≡ 0 = omega arith in
    rw (ea, eb) refl
bytes_cmp (suc n) a b =
    rw (bytes_cmp n a b, split n a, split n b) (sym (digits_cmp (byte_at n a) (byte_at n b) (a % 256 ^ n) (b % 256 ^ n) (256 ^ n) (low n a) (low n b)))

-- stored numbers are in the order of their bytes
pub number_cmp : (n a b : ℕ) → a < 256 ^ n → b < 256 ^ n → slice_cmp nat_cmp (number n a) (number n b) ≡ nat_cmp a b
unfolding number
number_cmp n a b ha hb = bytes_cmp n a b ∙ rw (mod-eq_of_lt ha, mod-eq_of_lt hb) refl

-- ---- lists

-- lists of one length, whatever follows
pub cmp_append : (u v x y : List ℕ) → length u ≡ length v → slice_cmp nat_cmp (u ++ x) (v ++ y) ≡ ordering_then (slice_cmp nat_cmp u v) (slice_cmp nat_cmp x y)
cmp_append [] [] x y e = refl
cmp_append [] (b ∷ v) x y e = absurd (omega (arith, e))
cmp_append (a ∷ u) [] x y e = absurd (omega (arith, e))
cmp_append (a ∷ u) (b ∷ v) x y e = rw (cmp_append u v x y (omega (arith, e))) (then_assoc (nat_cmp a b) (slice_cmp nat_cmp u v) (slice_cmp nat_cmp x y))
