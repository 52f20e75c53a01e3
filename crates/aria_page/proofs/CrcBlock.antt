-- Eight bytes at a time.
use Rattle.std.proofs.Common.{◌≡◌, ℕ, suc, ◌+◌, ◌*◌, ◌/◌, ◌%◌, ◌^◌, ◌<◌, ◌≤◌, List, ◌++◌, length, get_or, take, drop, refl, sym, ap, ◌∙◌, arith, drop-cons, length-drop, add-one, add-zero}
use Rattle.std.proofs.lemmas.List.{drop_all, take-append-drop}
use Rattle.std.specs.Prelude.{bit_xor}
use Rattle.std.specs.Int.Bits.{xor_zero_r}
use Rattle.aria_page.specs.Field.{AreBytes}
use Rattle.aria_page.specs.Crc.{bits_on, crc_from}
use Rattle.aria_page.proofs.CrcSteps.{bits_on-none, bits_on-nothing, byte_met, crc_from-append, crc_from-xor, first_on}

-- the byte in place i, with so many bytes left behind it
step : (after r i left : ℕ) (bytes : List ℕ) → length bytes ≡ i + left + 1 → AreBytes bytes
    → bits_on (8 * after) (crc_from r (drop i bytes)) ≡ bit_xor (bits_on (8 * (after + left + 1)) (bit_xor (get_or bytes i 0) (r % 256))) (bits_on (8 * after) (crc_from (r / 256) (drop (suc i) bytes)))
step after r i left bytes len fits =
    let lt : i < length bytes = omega arith in
    let behind : length (drop (suc i) bytes) ≡ left = omega (arith, length-drop (suc i) bytes) in
    ap (λ (xs : List ℕ). bits_on (8 * after) (crc_from r xs)) (drop-cons bytes i 0 lt)
    ∙ first_on after r (get_or bytes i 0) (drop (suc i) bytes) (fits i)
    ∙ ap (λ (n : ℕ). bit_xor (bits_on (8 * (after + n + 1)) (bit_xor (get_or bytes i 0) (r % 256))) (bits_on (8 * after) (crc_from (r / 256) (drop (suc i) bytes)))) behind

-- the same for a remainder of which nothing is left
step_alone : (after i left : ℕ) (bytes : List ℕ) → length bytes ≡ i + left + 1 → AreBytes bytes
    → bits_on (8 * after) (crc_from 0 (drop i bytes)) ≡ bit_xor (bits_on (8 * (after + left + 1)) (get_or bytes i 0)) (bits_on (8 * after) (crc_from 0 (drop (suc i) bytes)))
step_alone after i left bytes len fits =
    step after 0 i left bytes len fits
    ∙ ap (λ (x : ℕ). bit_xor (bits_on (8 * (after + left + 1)) x) (bits_on (8 * after) (crc_from 0 (drop (suc i) bytes)))) (xor_zero_r (get_or bytes i 0))

-- no byte is left
done : (after : ℕ) (bytes : List ℕ) → length bytes ≡ 8 → bits_on (8 * after) (crc_from 0 (drop 8 bytes)) ≡ 0
unfolding crc_from
done after bytes len = rw (drop_all {X = ℕ} 8 bytes (omega arith)) (bits_on-nothing (8 * after))

-- eight bytes: four of them meet a byte of the remainder each
pub eight : (after r : ℕ) (bytes : List ℕ) → length bytes ≡ 8 → AreBytes bytes → r < 2 ^ 32
    → bits_on (8 * after) (crc_from r bytes)
    ≡ bit_xor (bits_on (8 * (after + 7 + 1)) (bit_xor (get_or bytes 0 0) (r % 256)))
    (bit_xor (bits_on (8 * (after + 6 + 1)) (bit_xor (get_or bytes 1 0) (r / 256 % 256)))
    (bit_xor (bits_on (8 * (after + 5 + 1)) (bit_xor (get_or bytes 2 0) (r / 65536 % 256)))
    (bit_xor (bits_on (8 * (after + 4 + 1)) (bit_xor (get_or bytes 3 0) (r / 16777216 % 256)))
    (bit_xor (bits_on (8 * (after + 3 + 1)) (get_or bytes 4 0))
    (bit_xor (bits_on (8 * (after + 2 + 1)) (get_or bytes 5 0))
    (bit_xor (bits_on (8 * (after + 1 + 1)) (get_or bytes 6 0)) (bits_on (8 * (after + 1)) (get_or bytes 7 0))))))))
eight after r bytes len fits lt =
    let two : r / 256 / 256 ≡ r / 65536 = omega arith in
    let three : r / 65536 / 256 ≡ r / 16777216 = omega arith in
    let four : r / 16777216 / 256 ≡ 0 = omega arith in
    let last : bits_on (8 * after) (crc_from 0 (drop 7 bytes)) ≡ bits_on (8 * (after + 1)) (get_or bytes 7 0) =
    step_alone after 7 0 bytes (omega arith) fits
    ∙ rw (done after bytes len, xor_zero_r) (ap (λ (n : ℕ). bits_on (8 * (n + 1)) (get_or bytes 7 0)) (add-zero after)) in
    step after r 0 7 bytes (omega arith) fits
    ∙ rw (step after (r / 256) 1 6 bytes (omega arith) fits, two)
    (rw (step after (r / 65536) 2 5 bytes (omega arith) fits, three)
    (rw (step after (r / 16777216) 3 4 bytes (omega arith) fits, four)
    (rw (step_alone after 4 3 bytes (omega arith) fits, step_alone after 5 2 bytes (omega arith) fits, step_alone after 6 1 bytes (omega arith) fits, last) refl)))

-- two blocks of eight bytes
pub sixteen : (r x y : ℕ) (first second : List ℕ) → length second ≡ 8 → x ≡ bits_on (8 * 8) (crc_from r first) → y ≡ bits_on (8 * 0) (crc_from 0 second)
    → bit_xor x y ≡ crc_from (crc_from r first) second
sixteen r x y first second len ex ey =
    let front : ℕ = crc_from r first in
    let whole : crc_from front second ≡ bit_xor (bits_on (8 * 8) front) (crc_from 0 second) =
    ap (λ (q : ℕ). crc_from q second) (sym (xor_zero_r front)) ∙ crc_from-xor front 0 second
    ∙ ap (λ (n : ℕ). bit_xor (bits_on (8 * n) front) (crc_from 0 second)) len in
    rw (ex, ey, bits_on-none (crc_from 0 second)) (sym whole)

-- the bytes behind two blocks make of the remainder then what all of them made of it before
pub blocks_more : (r x : ℕ) (bytes first behind second last : List ℕ) → first ≡ take 8 bytes → behind ≡ drop 8 bytes → second ≡ take 8 behind → last ≡ drop 8 behind
    → x ≡ crc_from (crc_from r first) second → crc_from x last ≡ crc_from r bytes
blocks_more r x bytes first behind second last ef eb es el ex =
    let inner : second ++ last ≡ behind = rw (es, el) (take-append-drop 8 behind) in
    let outer : first ++ behind ≡ bytes = rw (ef, eb) (take-append-drop 8 bytes) in
    ap (λ (q : ℕ). crc_from q last) ex
    ∙ sym (crc_from-append (crc_from r first) second last)
    ∙ ap (crc_from (crc_from r first)) inner
    ∙ sym (crc_from-append r first behind)
    ∙ ap (crc_from r) outer

-- the bytes behind one make of the remainder then what they all made of it before
pub one_more : (r x i : ℕ) (bytes : List ℕ) → i < length bytes → AreBytes bytes → x ≡ bits_on 8 (bit_xor (get_or bytes i 0) (r % 256))
    → crc_from (bit_xor x (r / 256)) (drop (i + 1) bytes) ≡ crc_from r (drop i bytes)
unfolding crc_from
one_more r x i bytes lt fits ex =
    let b : ℕ = get_or bytes i 0 in
    ap (λ (q : ℕ). crc_from (bit_xor q (r / 256)) (drop (i + 1) bytes)) ex
    ∙ ap (λ (q : ℕ). crc_from q (drop (i + 1) bytes)) (sym (byte_met r b (fits i)))
    ∙ ap (λ (n : ℕ). crc_from (bits_on 8 (bit_xor r b)) (drop n bytes)) (add-one i)
    ∙ sym (ap (crc_from r) (drop-cons bytes i 0 lt))

-- after all of the bytes there is no more to come
pub none_left : (r i : ℕ) (bytes : List ℕ) → length bytes ≤ i → crc_from r (drop i bytes) ≡ r
unfolding crc_from
none_left r i bytes le = rw (drop_all {X = ℕ} i bytes le) refl
