-- A length is put in front of bytes once they are written.
use Rattle.std.proofs.Common.{◌≡◌, ℕ, ◌+◌, ◌^◌, ◌<◌, ◌≤◌, List, ◌++◌, length, take, drop, ap, sym, ◌∙◌, append_assoc, length-append, arith}
use Rattle.std.proofs.lemmas.List.{take_at, drop_at}
use Rattle.aria_page.specs.Number.{number}
use Rattle.aria_page.proofs.Numbers.{length-number}

-- A place of 4 bytes was left behind a front, and a text was written behind it.
pub record Behind (front text left now : List ℕ) (at : ℕ) : Type 0 where
  pub from : at ≡ length front
  pub place : left ≡ front ++ number 4 0
  pub written : now ≡ left ++ text

pub behind : (front text : List ℕ) {left now : List ℕ} {at : ℕ} → at ≡ length front → left ≡ front ++ number 4 0 → now ≡ left ++ text → Behind front text left now at
behind front text from place written = record { from = from; place = place; written = written }

left_size : {front text left now : List ℕ} {at : ℕ} → Behind front text left now at → length left ≡ at + 4
left_size {front} h = omega (arith, h.from, ap (λ (l : List ℕ). length l) h.place, length-append front (number 4 0), length-number 4 0)

pub has_place : {front text left now : List ℕ} {at : ℕ} → Behind front text left now at → at + 4 ≤ length now
has_place {text = text} {left = left} h = omega (arith, left_size h, ap (λ (l : List ℕ). length l) h.written, length-append left text)

behind_place : {front text left now : List ℕ} {at : ℕ} → Behind front text left now at → drop (at + 4) now ≡ text
behind_place {text = text} {left = left} {at = at} h = ap (drop (at + 4)) h.written ∙ drop_at left text (at + 4) (left_size h)

before_place : {front text left now : List ℕ} {at : ℕ} → Behind front text left now at → take at now ≡ front
before_place {front} {text} {left} {now} {at} h =
    ap (take at) (h.written ∙ ap (λ (l : List ℕ). l ++ text) h.place ∙ append_assoc front (number 4 0) text) ∙ take_at front (number 4 0 ++ text) at (sym h.from)

pub length_fits : {front text left now : List ℕ} {at : ℕ} → Behind front text left now at → length text < 2 ^ 32 → length (drop (at + 4) now) < 2 ^ 32
length_fits h fits = rw (behind_place h) fits

-- The place then has the length.
pub length_set : {front text left now new : List ℕ} {at : ℕ} → Behind front text left now at → new ≡ take at now ++ (number 4 (length (drop (at + 4) now)) ++ drop (at + 4) now)
    → new ≡ front ++ (number 4 (length text) ++ text)
length_set h set = rw (behind_place h, before_place h) at set

-- An entry whose kind stands in front of that place is then whole.
pub entry_set : (out kind : List ℕ) {text left now new : List ℕ} {at : ℕ} → Behind (out ++ kind) text left now at → new ≡ take at now ++ (number 4 (length (drop (at + 4) now)) ++ drop (at + 4) now)
    → new ≡ out ++ (kind ++ (number 4 (length text) ++ text))
entry_set out kind {text} h set = length_set h set ∙ append_assoc out kind (number 4 (length text) ++ text)
