-- A number that is read is the number that was stored, and what was stored is read again.
use Rattle.std.proofs.Common.{◌≡◌, ℕ, zero, suc, ◌+◌, ◌*◌, ◌/◌, ◌%◌, ◌^◌, ◌<◌, ◌≤◌, false, ltb, List, [], ◌∷◌, ◌++◌, length, take, drop, Some, None, refl, sym, ap, subst, ◌∙◌, arith}
use Rattle.std.proofs.Math.Nat.{div-one, mod-eq_of_lt, mul-add-div_right, mul-add-mod_self_right, mul_assoc, one-le-pow, pow-succ'}
use Rattle.std.proofs.lemmas.Bool.{ltb-false, lt-ltb, le-ltb}
use Rattle.std.proofs.lemmas.List.{drop_at, take-append-drop, length-append, length-take}
use Rattle.std.proofs.lemmas.Nat.{div-mul-add}
use Rattle.std.proofs.lemmas.Option.{same_Some}
use Rattle.std.specs.Int.{byte_at, bytes_high_first}
use Rattle.byteorder.specs.Endian.{big_from}
use Rattle.byteorder.specs.Numbers.{big_from-cons, big_from-lt, big_from-take, big_number-reads_back, length-bytes_high_first}
use Rattle.aria_page.specs.Field.{AreBytes, Takes}
use Rattle.aria_page.specs.Number.{number, number_of, number_at}
use Rattle.aria_page.proofs.Fields.{AreBytes-drop, AreBytes-take, guard_some}

-- a number of n bytes takes n bytes
pub length-number : (n x : ℕ) → length (number n x) ≡ n
unfolding number
length-number n x = length-bytes_high_first n x

-- a number in a single byte is that byte
pub number-one : (x : ℕ) → x < 256 → number 1 x ≡ x ∷ []
unfolding number
number-one x h = ap (λ (b : ℕ). b ∷ []) (mod-eq_of_lt h)

-- what n bytes store is below 256 ^ n
pub number_of-lt : (n : ℕ) (bytes : List ℕ) → AreBytes bytes → number_of n bytes < 256 ^ n
unfolding number_of
number_of-lt n bytes fits = big_from-lt 0 n bytes fits

-- a stored number is read again, whatever follows
pub number_of-number : (n x : ℕ) (rest : List ℕ) → x < 256 ^ n → number_of n (number n x ++ rest) ≡ x
unfolding number number_of
number_of-number n x rest h = big_number-reads_back n x rest h

-- a byte of a number, by its place
byte_at-pow : (k x : ℕ) → byte_at k x ≡ x / 256 ^ k % 256
byte_at-pow zero x = ap (λ (y : ℕ). y % 256) (sym (div-one x))
byte_at-pow (suc k) x = refl

-- a multiple of 256 ^ n changes none of the lowest n bytes
low_bytes : (n a x : ℕ) → bytes_high_first n (a * 256 ^ n + x) ≡ bytes_high_first n x
low_bytes zero a x = refl
low_bytes (suc n) a x =
    let place : a * 256 ^ suc n + x ≡ a * 256 * 256 ^ n + x = rw pow-succ' (ap (λ (y : ℕ). y + x) (sym (mul_assoc a 256 (256 ^ n)))) in
    let above : (a * 256 * 256 ^ n + x) / 256 ^ n ≡ a * 256 + x / 256 ^ n = mul-add-div_right (one-le-pow n 256 (omega arith)) (a * 256) x in
    let top : byte_at n (a * 256 ^ suc n + x) ≡ byte_at n x =
    ap (byte_at n) place ∙ byte_at-pow n (a * 256 * 256 ^ n + x) ∙ ap (λ (y : ℕ). y % 256) above
    ∙ mul-add-mod_self_right a 256 (x / 256 ^ n) ∙ sym (byte_at-pow n x) in
    let rest : bytes_high_first n (a * 256 ^ suc n + x) ≡ bytes_high_first n x = ap (bytes_high_first n) place ∙ low_bytes n (a * 256) x in
    rw (top, rest) refl

-- the number that n bytes store is stored in these bytes
high_first-from : (n : ℕ) (bytes : List ℕ) → AreBytes bytes → length bytes ≡ n → bytes_high_first n (big_from 0 n bytes) ≡ bytes
high_first-from zero [] fits len = refl
high_first-from zero (b ∷ bytes) fits len = absurd (omega (arith, len))
high_first-from (suc n) [] fits len = absurd (omega (arith, len))
high_first-from (suc n) (b ∷ bytes) fits len =
    let rest : ℕ = big_from 0 n bytes in
    let moved : big_from 1 n (b ∷ bytes) ≡ rest = big_from-cons 0 n b bytes in
    let small : rest < 256 ^ n = big_from-lt 0 n bytes (λ i. fits (suc i)) in
    let low : b < 256 = fits 0 in
    let above : (b * 256 ^ n + rest) / 256 ^ n ≡ b = div-mul-add b (256 ^ n) rest small in
    let first : byte_at n (b * 256 ^ n + rest) ≡ b = byte_at-pow n (b * 256 ^ n + rest) ∙ ap (λ (y : ℕ). y % 256) above ∙ mod-eq_of_lt low in
    let same : bytes_high_first n (b * 256 ^ n + rest) ≡ bytes = low_bytes n b rest ∙ high_first-from n bytes (λ i. fits (suc i)) (omega (arith, len)) in
    rw (moved, first, same) refl

-- bytes store the number that they store
pub number-number_of : (n : ℕ) (bytes : List ℕ) → AreBytes bytes → length bytes ≡ n → number n (number_of n bytes) ≡ bytes
unfolding number number_of
number-number_of n bytes fits len = high_first-from n bytes fits len

-- a number is in the first bytes alone
pub number_of-take : (n : ℕ) (bytes : List ℕ) → number_of n (take n bytes) ≡ number_of n bytes
unfolding number_of
number_of-take n bytes = big_from-take 0 n n bytes (omega arith)

-- a number that is read is spelled by the bytes in front
pub number_takes : (n : ℕ) (bytes : List ℕ) (x : ℕ × List ℕ) → AreBytes bytes → number_at n bytes ≡ Some x → Takes bytes (number n x.0) x.1 × (x.0 < 256 ^ n)
unfolding number_at
number_takes n bytes x fits e =
    let g = guard_some (ltb (length bytes) n) (Some (number_of n bytes, drop n bytes)) x e in
    let long : n ≤ length bytes = ltb-false _ _ g.0 in
    let front = number-number_of n (take n bytes) (AreBytes-take n bytes fits) (omega (arith, length-take n bytes)) in
    let spelled : number n (number_of n bytes) ≡ take n bytes = ap (number n) (sym (number_of-take n bytes)) ∙ front in
    let whole : Takes bytes (number n (number_of n bytes)) (drop n bytes) = record { parts = sym (take-append-drop n bytes) ∙ ap (λ (l : List ℕ). l ++ drop n bytes) (sym spelled); rest_bytes = AreBytes-drop n bytes fits } in
    subst (λ (y : ℕ × List ℕ). Takes bytes (number n y.0) y.1 × (y.0 < 256 ^ n)) (same_Some (number_of n bytes, drop n bytes) x g.1) (whole, number_of-lt n bytes fits)

-- a number that is stored is read, and what follows is left
pub number_again : (n x : ℕ) (rest : List ℕ) → x < 256 ^ n → number_at n (number n x ++ rest) ≡ Some (x, rest)
unfolding number_at
number_again n x rest h =
    let len = length-number n x in
    let long : ltb (length (number n x ++ rest)) n ≡ false = le-ltb _ _ (omega (arith, length-append (number n x) rest)) in
    rw (long, number_of-number n x rest h, drop_at (number n x) rest n len) refl

-- nothing is read exactly where the bytes run out
pub number_short : (n : ℕ) (bytes : List ℕ) → length bytes < n → number_at n bytes ≡ None
unfolding number_at
number_short n bytes h = rw (lt-ltb _ _ h) refl

-- where the bytes do not run out, a number is read
pub number_long : (n : ℕ) (bytes : List ℕ) → n ≤ length bytes → number_at n bytes ≡ Some (number_of n bytes, drop n bytes)
unfolding number_at
number_long n bytes h = rw (le-ltb _ _ h) refl
