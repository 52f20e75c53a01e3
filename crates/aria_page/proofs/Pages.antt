-- The parts of a page, and what becomes of them.
use Rattle.std.proofs.Common.{◌≡◌, ℕ, zero, suc, ◌+◌, ◌-◌, ◌^◌, ◌<◌, ◌≤◌, Bool, true, false, List, [], ◌∷◌, ◌++◌, length, take, drop, replicate, refl, sym, ap, subst, ◌∙◌, arith, inl, inr}
use Rattle.std.specs.Prelude.{IsTrue, ◌==◌, ◌&&◌}
use Rattle.std.specs.List.{list_all}
use Rattle.std.proofs.lemmas.Bool.{eqb-true}
use Rattle.std.proofs.lemmas.List.{drop_at, length-append, drop-drop, take-append-le, take-take, length-drop, length-take}
use Rattle.aria_page.specs.declared.lsn.Lsn.{Lsn}
use Rattle.aria_page.specs.Number.{number}
use Rattle.aria_page.specs.Lsn.{IsLsn, lsn_bytes, lsn_of}
use Rattle.aria_page.specs.Crc.{checksum}
use Rattle.aria_page.specs.Page.{with_bytes, zero_page, page_body, page_lsn, Sums, IsSound, with_sum, summed, sealed}
use Rattle.aria_page.proofs.Numbers.{length-number, number_of-number}
use Rattle.aria_page.proofs.StoredLsn.{length-lsn_bytes, lsn_of-lsn_bytes}

-- bytes that fit put over others leave the length
pub length-with_bytes : (at : ℕ) (bytes old : List ℕ) → at + length bytes ≤ length old → length (with_bytes at bytes old) ≡ length old
unfolding with_bytes
length-with_bytes at bytes old fits =
    omega (arith, length-append (take at old) (bytes ++ drop (at + length bytes) old), length-append bytes (drop (at + length bytes) old), length-take at old, length-drop (at + length bytes) old)

-- bytes put at the front
with_bytes-front : (n : ℕ) (bytes old : List ℕ) → length bytes ≡ n → with_bytes 0 bytes old ≡ bytes ++ drop n old
unfolding with_bytes
with_bytes-front n bytes old len = let e : 0 + length bytes ≡ n = omega arith in rw e refl

-- what stands before a place where bytes were put is as it was
pub take-with_bytes : (n at : ℕ) (bytes old : List ℕ) → n ≤ at → at ≤ length old → take n (with_bytes at bytes old) ≡ take n old
unfolding with_bytes
take-with_bytes n at bytes old before low =
    take-append-le n (take at old) (bytes ++ drop (at + length bytes) old) (omega (arith, length-take at old)) ∙ take-take n at old before

-- the bytes that were put stand there, and behind them what stood there
pub drop-with_bytes : (at n : ℕ) (bytes old : List ℕ) → at ≤ length old → at + length bytes ≡ n → drop at (with_bytes at bytes old) ≡ bytes ++ drop n old
unfolding with_bytes
drop-with_bytes at n bytes old low e = rw e (drop_at (take at old) (bytes ++ drop n old) at (omega (arith, length-take at old)))

-- what stands behind the bytes that were put is as it was
pub drop-with_bytes-behind : (n at : ℕ) (bytes old : List ℕ) → at + length bytes ≤ n → at ≤ length old → drop n (with_bytes at bytes old) ≡ drop n old
drop-with_bytes-behind n at bytes old behind low =
    let size : ℕ = length bytes in
    let left : ℕ = n - (at + size) in
    let whole : List ℕ = with_bytes at bytes old in
    let last : List ℕ = drop (at + size) old in
    let place : n ≡ at + (size + left) = omega arith in
    let end : at + size + left ≡ n = omega arith in
    ap (λ (k : ℕ). drop k whole) place
    ∙ sym (drop-drop (size + left) at whole)
    ∙ ap (drop (size + left)) (drop-with_bytes at (at + size) bytes old low refl)
    ∙ sym (drop-drop left size (bytes ++ last))
    ∙ ap (drop left) (drop_at bytes last size refl)
    ∙ drop-drop left (at + size) old
    ∙ ap (λ (k : ℕ). drop k old) end

-- the checksum put in its place
pub summed_is : (page : List ℕ) → with_bytes 0 (number 4 (checksum (drop 4 page))) page ≡ summed page
unfolding summed with_sum
summed_is page = with_bytes-front 4 (number 4 (checksum (drop 4 page))) page (length-number 4 (checksum (drop 4 page)))

-- the log sequence number put in its place, and then the checksum
pub sealed_is : (lsn : Lsn) (page bytes put : List ℕ) → bytes ≡ lsn_bytes lsn → put ≡ with_bytes 4 bytes page → length put ≡ 8192 → summed put ≡ sealed lsn page
unfolding summed sealed page_body with_bytes
sealed_is lsn page bytes put eb ep len =
    let seven : length bytes ≡ 7 = ap length eb ∙ length-lsn_bytes lsn in
    let long : 4 ≤ length page = omega (arith, ap length ep, length-append (take 4 page) (bytes ++ drop (4 + length bytes) page), length-append bytes (drop (4 + length bytes) page), length-take 4 page, length-drop (4 + length bytes) page) in
    ap (λ (l : List ℕ). with_sum (drop 4 l)) ep
    ∙ ap with_sum (drop-with_bytes 4 11 bytes page long (omega arith))
    ∙ ap (λ (l : List ℕ). with_sum (l ++ drop 11 page)) eb

-- both tests that hold together
and_true : (a b : Bool) → (a && b) ≡ true → (a ≡ true) × (b ≡ true)
and_true true b e = (refl, e)
and_true false b e = absurd cc

-- zeros are as many zeros
are_zeros : (n : ℕ) (bytes : List ℕ) → length bytes ≡ n → list_all (λ b. b == 0) bytes ≡ true → bytes ≡ replicate n 0
are_zeros zero [] len e = refl
are_zeros zero (b ∷ bytes) len e = absurd (omega arith)
are_zeros (suc n) [] len e = absurd (omega arith)
are_zeros (suc n) (b ∷ bytes) len e =
    let parts = and_true (b == 0) (list_all (λ x. x == 0) bytes) e in
    rw (eqb-true b 0 parts.0) (ap (λ (l : List ℕ). 0 ∷ l) (are_zeros n bytes (omega arith) parts.1))

-- as many zeros are zeros
zeros_are : (n : ℕ) → list_all (λ b. b == 0) (replicate n 0) ≡ true
zeros_are zero = refl
zeros_are (suc n) = zeros_are n

-- where the checksum does not fit, a page is sound exactly where all bytes are zero
pub sound_if_zero : (page shown : List ℕ) (zeros : Bool) → length page ≡ 8192 → shown ≡ page → zeros ≡ list_all (λ b. b == 0) shown → (Sums page → IsTrue false)
    → (IsTrue zeros → IsSound page) × (IsSound page → IsTrue zeros)
unfolding zero_page
sound_if_zero page shown zeros len same e unfit =
    let all : zeros ≡ list_all (λ b. b == 0) page = e ∙ ap (list_all (λ b. b == 0)) same in (
      (λ z. inr (are_zeros 8192 page len (sym all ∙ z))),
      (λ sound. elim sound [
        | inl fits ↦ let no : false ≡ true = unfit fits in absurd cc
        | inr clear ↦ all ∙ ap (list_all (λ b. b == 0)) clear ∙ zeros_are 8192
      ]),
    )

-- ---- what a page holds once its checksum is set

-- behind the checksum there is what it was set over
drop-with_sum : (n k : ℕ) (bytes : List ℕ) → n ≡ 4 + k → drop n (with_sum bytes) ≡ drop k bytes
unfolding with_sum
drop-with_sum n k bytes e = rw e (sym (drop-drop k 4 (number 4 (checksum bytes) ++ bytes)) ∙ ap (drop k) (drop_at (number 4 (checksum bytes)) bytes 4 (length-number 4 (checksum bytes))))

-- the checksum fits
pub Sums-with_sum : (bytes : List ℕ) → checksum bytes < 2 ^ 32 → Sums (with_sum bytes)
unfolding Sums with_sum
Sums-with_sum bytes lt =
    number_of-number 4 (checksum bytes) bytes lt
    ∙ ap checksum (sym (drop_at (number 4 (checksum bytes)) bytes 4 (length-number 4 (checksum bytes))))

-- the log sequence number is as it was
pub page_lsn-summed : (page : List ℕ) → page_lsn (summed page) ≡ page_lsn page
unfolding page_lsn summed
page_lsn-summed page = ap lsn_of (drop-with_sum 4 0 (drop 4 page) refl)

-- the body is as it was
pub page_body-summed : (page : List ℕ) → page_body (summed page) ≡ page_body page
unfolding page_body summed
page_body-summed page = drop-with_sum 11 7 (drop 4 page) refl ∙ drop-drop 7 4 page

-- the log sequence number is the one that was set
pub page_lsn-sealed : (lsn : Lsn) (page : List ℕ) → IsLsn lsn → page_lsn (sealed lsn page) ≡ lsn
unfolding page_lsn sealed
page_lsn-sealed lsn page fits = ap lsn_of (drop-with_sum 4 0 (lsn_bytes lsn ++ page_body page) refl) ∙ lsn_of-lsn_bytes lsn (page_body page) fits

-- the body is as it was
pub page_body-sealed : (lsn : Lsn) (page : List ℕ) → page_body (sealed lsn page) ≡ page_body page
unfolding page_body sealed
page_body-sealed lsn page = drop-with_sum 11 7 (lsn_bytes lsn ++ page_body page) refl ∙ drop_at (lsn_bytes lsn) (page_body page) 7 (length-lsn_bytes lsn)

-- a page keeps its length
pub length-summed : (page : List ℕ) → 4 ≤ length page → length (summed page) ≡ length page
unfolding summed with_sum
length-summed page low = omega (arith, length-append (number 4 (checksum (drop 4 page))) (drop 4 page), length-number 4 (checksum (drop 4 page)), length-drop 4 page)

pub length-sealed : (lsn : Lsn) (page : List ℕ) → 11 ≤ length page → length (sealed lsn page) ≡ length page
unfolding sealed with_sum page_body
length-sealed lsn page low =
    let rest : List ℕ = lsn_bytes lsn ++ drop 11 page in
    omega (arith, length-append (number 4 (checksum rest)) rest, length-number 4 (checksum rest), length-append (lsn_bytes lsn) (drop 11 page), length-lsn_bytes lsn, length-drop 11 page)

-- once its checksum was put in its place, it fits
pub sums_once_put : (page put : List ℕ) (sum : ℕ) → sum ≡ checksum (drop 4 page) → sum < 2 ^ 32 → put ≡ summed page → Sums put
unfolding summed
sums_once_put page put sum is lt set =
    let limit : checksum (drop 4 page) < 2 ^ 32 = omega arith in
    let P : List ℕ → Type 0 = λ l. Sums l in
    subst P (sym set) (Sums-with_sum (drop 4 page) limit)
