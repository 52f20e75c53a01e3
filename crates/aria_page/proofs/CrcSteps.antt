-- What becomes of a remainder: each step is linear, so the parts of a sum go their ways apart.
use Rattle.std.proofs.Common.{◌≡◌, ℕ, zero, suc, ◌+◌, ◌*◌, ◌/◌, ◌%◌, ◌^◌, ◌<◌, List, [], ◌∷◌, ◌++◌, length, refl, sym, ap, ◌∙◌, arith, zero-add}
use Rattle.std.proofs.Math.Nat.{pow-suc}
use Rattle.std.specs.Prelude.{bit_xor}
use Rattle.std.specs.Int.Bits.{xor_assoc, xor_zero_r}
use Rattle.std.proofs.lemmas.Nat.{xor_comm, xor_shr, xor_mod, xor_block, xor_lt}
use Rattle.aria_page.specs.Field.{AreBytes}
use Rattle.aria_page.specs.Crc.{bits_on, bit_on, crc_from, checksum}

-- no bit on, the remainder is as it was
pub bits_on-none : (r : ℕ) → bits_on 0 r ≡ r
unfolding bits_on
bits_on-none r = refl

-- m bits on and then n bits on
pub bits_on-add : (m n r : ℕ) → bits_on (m + n) r ≡ bits_on n (bits_on m r)
unfolding bits_on
bits_on-add zero n r = ap (λ (k : ℕ). bits_on k r) (zero-add n)
bits_on-add (suc m) n r = let more : suc m + n ≡ suc (m + n) = omega arith in ap (λ (k : ℕ). bits_on k r) more ∙ bits_on-add m n (bit_on r)

-- of nothing nothing becomes
pub bits_on-nothing : (n : ℕ) → bits_on n 0 ≡ 0
unfolding bits_on bit_on
bits_on-nothing zero = refl
bits_on-nothing (suc n) = bits_on-nothing n

-- the sum of two sums, with the middle parts exchanged
xor_swap : (a b c d : ℕ) → bit_xor (bit_xor a b) (bit_xor c d) ≡ bit_xor (bit_xor a c) (bit_xor b d)
xor_swap a b c d =
    xor_assoc a b (bit_xor c d)
    ∙ ap (λ (x : ℕ). bit_xor a x) (sym (xor_assoc b c d) ∙ ap (λ (x : ℕ). bit_xor x d) (xor_comm b c) ∙ xor_assoc c b d)
    ∙ sym (xor_assoc a c (bit_xor b d))

-- the polynomial is added for the one bit, for the other, or for neither
taps : (x y : ℕ) → x < 2 → y < 2 → bit_xor x y * 0xEDB88320 ≡ bit_xor (x * 0xEDB88320) (y * 0xEDB88320)
taps zero y hx hy = refl
taps (suc zero) zero hx hy = refl
taps (suc zero) (suc zero) hx hy = refl
taps (suc zero) (suc (suc y)) hx hy = absurd (omega arith)
taps (suc (suc x)) y hx hy = absurd (omega arith)

-- one bit on is linear
bit_on-xor : (a b : ℕ) → bit_on (bit_xor a b) ≡ bit_xor (bit_on a) (bit_on b)
unfolding bit_on
bit_on-xor a b =
    let half : bit_xor a b / 2 ≡ bit_xor (a / 2) (b / 2) = xor_shr a b 1 in
    let low : bit_xor a b % 2 ≡ bit_xor (a % 2) (b % 2) = xor_mod a b 1 in
    rw (half, low, taps (a % 2) (b % 2) (omega arith) (omega arith)) (xor_swap (a / 2) (b / 2) (a % 2 * 0xEDB88320) (b % 2 * 0xEDB88320))

-- any number of bits on is linear
pub bits_on-xor : (n a b : ℕ) → bits_on n (bit_xor a b) ≡ bit_xor (bits_on n a) (bits_on n b)
unfolding bits_on
bits_on-xor zero a b = refl
bits_on-xor (suc n) a b = ap (bits_on n) (bit_on-xor a b) ∙ bits_on-xor n (bit_on a) (bit_on b)

-- bits that are 0 fall out, and nothing is added
bits_on-shift : (n h : ℕ) → bits_on n (h * 2 ^ n) ≡ h
unfolding bits_on bit_on
bits_on-shift zero h = omega arith
bits_on-shift (suc n) h =
    let even : h * 2 ^ suc n ≡ h * 2 ^ n * 2 = rw pow-suc (omega arith) in
    let half : h * 2 ^ n * 2 / 2 ≡ h * 2 ^ n = omega arith in
    let low : h * 2 ^ n * 2 % 2 ≡ 0 = omega arith in
    let one : bit_on (h * 2 ^ n * 2) ≡ h * 2 ^ n = rw (half, low) (xor_zero_r (h * 2 ^ n)) in
    ap (λ (x : ℕ). bits_on n (bit_on x)) even ∙ ap (bits_on n) one ∙ bits_on-shift n h

-- eight bits on the low byte has become what it becomes alone, and the others have moved down
byte_on : (x : ℕ) → bits_on 8 x ≡ bit_xor (bits_on 8 (x % 256)) (x / 256)
byte_on x =
    let low : ℕ = x % 256 in
    let high : ℕ = x / 256 in
    let front : 0 * 2 ^ 8 + low ≡ low = omega arith in
    let behind : high * 2 ^ 8 + 0 ≡ high * 256 = omega arith in
    let block : bit_xor (0 * 2 ^ 8 + low) (high * 2 ^ 8 + 0) ≡ high * 2 ^ 8 + bit_xor low 0 = xor_block 8 0 high low 0 (omega arith) (omega arith) in
    let parts : x ≡ bit_xor low (high * 256) = omega (arith, rw (front, behind, xor_zero_r) at block) in
    ap (bits_on 8) parts ∙ bits_on-xor 8 low (high * 256) ∙ ap (bit_xor (bits_on 8 low)) (bits_on-shift 8 high)

-- what is added before some bytes is still there behind them, gone on by their bits
pub crc_from-xor : (a r : ℕ) (bytes : List ℕ) → crc_from (bit_xor a r) bytes ≡ bit_xor (bits_on (8 * length bytes) a) (crc_from r bytes)
unfolding crc_from
crc_from-xor a r [] = ap (λ (x : ℕ). bit_xor x r) (sym (bits_on-none a))
crc_from-xor a r (b ∷ bytes) =
    let more : 8 + 8 * length bytes ≡ 8 * suc (length bytes) = omega arith in
    let next : ℕ = bits_on 8 (bit_xor r b) in
    ap (λ (x : ℕ). crc_from (bits_on 8 x) bytes) (xor_assoc a r b)
    ∙ ap (λ (x : ℕ). crc_from x bytes) (bits_on-xor 8 a (bit_xor r b))
    ∙ crc_from-xor (bits_on 8 a) next bytes
    ∙ ap (λ (x : ℕ). bit_xor x (crc_from next bytes)) (sym (bits_on-add 8 (8 * length bytes) a) ∙ ap (λ (k : ℕ). bits_on k a) more)

-- one part of the bytes and then the other
pub crc_from-append : (r : ℕ) (xs ys : List ℕ) → crc_from r (xs ++ ys) ≡ crc_from (crc_from r xs) ys
unfolding crc_from
crc_from-append r [] ys = refl
crc_from-append r (x ∷ xs) ys = crc_from-append (bits_on 8 (bit_xor r x)) xs ys

-- a byte meets the low byte of the remainder alone, and the others move down
pub byte_met : (r b : ℕ) → b < 256 → bits_on 8 (bit_xor r b) ≡ bit_xor (bits_on 8 (bit_xor b (r % 256))) (r / 256)
byte_met r b lt =
    let small : b % 256 ≡ b = omega arith in
    let none : b / 256 ≡ 0 = omega arith in
    let met : bit_xor r b % 256 ≡ bit_xor b (r % 256) = xor_mod r b 8 ∙ rw small (xor_comm (r % 256) b) in
    let left : bit_xor r b / 256 ≡ r / 256 = xor_shr r b 8 ∙ rw none (xor_zero_r (r / 256)) in
    byte_on (bit_xor r b) ∙ rw (met, left) refl

-- the first byte goes on by the bits of itself and of all bytes after it
crc_from-first : (r b : ℕ) (bytes : List ℕ) → b < 256 → crc_from r (b ∷ bytes) ≡ bit_xor (bits_on (8 * (length bytes + 1)) (bit_xor b (r % 256))) (crc_from (r / 256) bytes)
unfolding crc_from
crc_from-first r b bytes lt =
    let alone : ℕ = bit_xor b (r % 256) in
    let more : 8 + 8 * length bytes ≡ 8 * (length bytes + 1) = omega arith in
    ap (λ (x : ℕ). crc_from x bytes) (byte_met r b lt)
    ∙ crc_from-xor (bits_on 8 alone) (r / 256) bytes
    ∙ ap (λ (x : ℕ). bit_xor x (crc_from (r / 256) bytes)) (sym (bits_on-add 8 (8 * length bytes) alone) ∙ ap (λ (k : ℕ). bits_on k alone) more)

-- the same, some bytes on
pub first_on : (after r b : ℕ) (bytes : List ℕ) → b < 256
    → bits_on (8 * after) (crc_from r (b ∷ bytes)) ≡ bit_xor (bits_on (8 * (after + length bytes + 1)) (bit_xor b (r % 256))) (bits_on (8 * after) (crc_from (r / 256) bytes))
first_on after r b bytes lt =
    let places : 8 * (length bytes + 1) + 8 * after ≡ 8 * (after + length bytes + 1) = omega arith in
    let alone : ℕ = bit_xor b (r % 256) in
    ap (bits_on (8 * after)) (crc_from-first r b bytes lt)
    ∙ bits_on-xor (8 * after) (bits_on (8 * (length bytes + 1)) alone) (crc_from (r / 256) bytes)
    ∙ ap (λ (x : ℕ). bit_xor x (bits_on (8 * after) (crc_from (r / 256) bytes))) (sym (bits_on-add (8 * (length bytes + 1)) (8 * after) alone) ∙ ap (λ (k : ℕ). bits_on k alone) places)

-- ---- a remainder has 32 bits

bit_on-lt : (r : ℕ) → r < 2 ^ 32 → bit_on r < 2 ^ 32
unfolding bit_on
bit_on-lt r lt = xor_lt 32 (r / 2) (r % 2 * 0xEDB88320) (omega arith) (omega arith)

bits_on-lt : (n r : ℕ) → r < 2 ^ 32 → bits_on n r < 2 ^ 32
unfolding bits_on
bits_on-lt zero r lt = lt
bits_on-lt (suc n) r lt = bits_on-lt n (bit_on r) (bit_on-lt r lt)

crc_from-lt : (r : ℕ) (bytes : List ℕ) → AreBytes bytes → r < 2 ^ 32 → crc_from r bytes < 2 ^ 32
unfolding crc_from
crc_from-lt r [] fits lt = lt
crc_from-lt r (b ∷ bytes) fits lt = crc_from-lt (bits_on 8 (bit_xor r b)) bytes (λ i. fits (suc i)) (bits_on-lt 8 (bit_xor r b) (xor_lt 32 r b lt (omega (arith, fits 0))))

-- the checksum of bytes has 32 bits
pub checksum-lt : (bytes : List ℕ) → AreBytes bytes → checksum bytes < 2 ^ 32
unfolding checksum
checksum-lt bytes fits = xor_lt 32 (crc_from 0xFFFFFFFF bytes) 0xFFFFFFFF (crc_from-lt 0xFFFFFFFF bytes fits (omega arith)) (omega arith)
