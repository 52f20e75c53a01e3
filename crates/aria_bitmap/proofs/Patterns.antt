-- The patterns of a body in which a group was put.
use Rattle.std.proofs.Common.{◌≡◌, ◌≢◌, ◌⊎◌, ℕ, ◌+◌, ◌*◌, ◌/◌, ◌%◌, ◌<◌, ◌≤◌, List, length, drop, get_or, refl, sym, ap, ◌∙◌, arith, inl, inr}
use Rattle.std.proofs.lemmas.Bool.{cases_eq, cases_lt}
use Rattle.std.proofs.lemmas.List.{get_or-drop, get_or-take, get_or_append_left}
use Rattle.aria_page.specs.Page.{with_bytes}
use Rattle.aria_page.proofs.Pages.{take-with_bytes, drop-with_bytes, drop-with_bytes-behind}
use Rattle.aria_bitmap.specs.Pattern.{digit, group, pattern, SetsPattern}
use Rattle.aria_bitmap.proofs.Digits.{digit-lt}

-- a pattern is below 8
pub pattern-lt : (body : List ℕ) (n : ℕ) → pattern body n < 8
unfolding pattern
pattern-lt body n = digit-lt (n % 8) (group body (n / 8))

-- ---- single bytes where bytes were put

in_front : (at : ℕ) (bytes old : List ℕ) (i : ℕ) → at ≤ length old → i < at → get_or (with_bytes at bytes old) i 0 ≡ get_or old i 0
in_front at bytes old i low lt =
    sym (get_or-take at (with_bytes at bytes old) i 0 lt)
    ∙ ap (λ (l : List ℕ). get_or l i 0) (take-with_bytes at at bytes old (omega arith) low)
    ∙ get_or-take at old i 0 lt

inside : (at : ℕ) (bytes old : List ℕ) (i : ℕ) → at ≤ length old → i < length bytes → get_or (with_bytes at bytes old) (at + i) 0 ≡ get_or bytes i 0
inside at bytes old i low lt =
    sym (get_or-drop at (with_bytes at bytes old) i 0)
    ∙ ap (λ (l : List ℕ). get_or l i 0) (drop-with_bytes at (at + length bytes) bytes old low refl)
    ∙ get_or_append_left bytes (drop (at + length bytes) old) 0 i lt

behind : (at : ℕ) (bytes old : List ℕ) (i : ℕ) → at ≤ length old → at + length bytes ≤ i → get_or (with_bytes at bytes old) i 0 ≡ get_or old i 0
behind at bytes old i low past =
    let here : i + 0 ≡ i = omega arith in
    ap (λ (n : ℕ). get_or (with_bytes at bytes old) n 0) (sym here)
    ∙ sym (get_or-drop i (with_bytes at bytes old) 0 0)
    ∙ ap (λ (l : List ℕ). get_or l 0 0) (drop-with_bytes-behind i at bytes old past low)
    ∙ get_or-drop i old 0 0
    ∙ ap (λ (n : ℕ). get_or old n 0) here

-- ---- groups

-- the group that was put
group-put : (g : ℕ) (bytes body : List ℕ) → length bytes ≡ 3 → 1 + 3 * g ≤ length body
    → group (with_bytes (1 + 3 * g) bytes body) g ≡ get_or bytes 0 0 + 256 * get_or bytes 1 0 + 65536 * get_or bytes 2 0
unfolding group
group-put g bytes body len low =
    let at : ℕ = 1 + 3 * g in
    let new : List ℕ = with_bytes at bytes body in
    let p0 : at + 0 ≡ 1 + 3 * g = omega arith in
    let p1 : at + 1 ≡ 2 + 3 * g = omega arith in
    let p2 : at + 2 ≡ 3 + 3 * g = omega arith in
    let b0 : get_or new (1 + 3 * g) 0 ≡ get_or bytes 0 0 = ap (λ (n : ℕ). get_or new n 0) (sym p0) ∙ inside at bytes body 0 low (omega arith) in
    let b1 : get_or new (2 + 3 * g) 0 ≡ get_or bytes 1 0 = ap (λ (n : ℕ). get_or new n 0) (sym p1) ∙ inside at bytes body 1 low (omega arith) in
    let b2 : get_or new (3 + 3 * g) 0 ≡ get_or bytes 2 0 = ap (λ (n : ℕ). get_or new n 0) (sym p2) ∙ inside at bytes body 2 low (omega arith) in
    cc

-- a byte of another group
byte-other : (g : ℕ) (bytes body : List ℕ) (i : ℕ) → length bytes ≡ 3 → 1 + 3 * g ≤ length body → ((i < 1 + 3 * g) ⊎ (1 + 3 * g + 3 ≤ i))
    → get_or (with_bytes (1 + 3 * g) bytes body) i 0 ≡ get_or body i 0
byte-other g bytes body i len low away =
    elim away [
      | inl lt ↦ in_front (1 + 3 * g) bytes body i low lt
      | inr le ↦ behind (1 + 3 * g) bytes body i low (omega arith)
    ]

-- another group
group-other : (g h : ℕ) (bytes body : List ℕ) → length bytes ≡ 3 → 1 + 3 * g ≤ length body → h ≢ g
    → group (with_bytes (1 + 3 * g) bytes body) h ≡ group body h
unfolding group
group-other g h bytes body len low ne =
    elim (cases_lt h g) [
      | inl lt ↦
          let b0 = byte-other g bytes body (1 + 3 * h) len low (inl (omega arith)) in
          let b1 = byte-other g bytes body (2 + 3 * h) len low (inl (omega arith)) in
          let b2 = byte-other g bytes body (3 + 3 * h) len low (inl (omega arith)) in
          cc
      | inr le ↦
          let past : g < h = omega arith in
          let b0 = byte-other g bytes body (1 + 3 * h) len low (inr (omega arith)) in
          let b1 = byte-other g bytes body (2 + 3 * h) len low (inr (omega arith)) in
          let b2 = byte-other g bytes body (3 + 3 * h) len low (inr (omega arith)) in
          cc
    ]

-- ---- patterns

-- the other patterns, where a group has one other digit
others-kept : (n new : ℕ) (bytes body : List ℕ) → length body ≡ 8181 → length bytes ≡ 3 → n < 21808
    → get_or bytes 0 0 + 256 * get_or bytes 1 0 + 65536 * get_or bytes 2 0 ≡ new
    → ((k : ℕ) → k ≢ n % 8 → digit k new ≡ digit k (group body (n / 8)))
    → (m : ℕ) → m ≢ n → pattern (with_bytes (1 + 3 * (n / 8)) bytes body) m ≡ pattern body m
unfolding pattern
others-kept n new bytes body len three low is kept m ne =
    elim (cases_eq (m / 8) (n / 8)) [
      | inl same ↦
          let apart : m % 8 ≢ n % 8 = omega arith in
          ap (λ (h : ℕ). digit (m % 8) (group (with_bytes (1 + 3 * (n / 8)) bytes body) h)) same
          ∙ ap (digit (m % 8)) (group-put (n / 8) bytes body three (omega arith) ∙ is)
          ∙ kept (m % 8) apart
          ∙ ap (λ (h : ℕ). digit (m % 8) (group body h)) (sym same)
      | inr other ↦ ap (digit (m % 8)) (group-other (n / 8) (m / 8) bytes body three (omega arith) other)
    ]

-- a group with one other digit was put in its place
pub sets_pattern : (n code new : ℕ) (bytes body : List ℕ) → length body ≡ 8181 → length bytes ≡ 3 → n < 21808
    → get_or bytes 0 0 + 256 * get_or bytes 1 0 + 65536 * get_or bytes 2 0 ≡ new
    → digit (n % 8) new ≡ code
    → ((k : ℕ) → k ≢ n % 8 → digit k new ≡ digit k (group body (n / 8)))
    → SetsPattern n code body (with_bytes (1 + 3 * (n / 8)) bytes body)
unfolding pattern
sets_pattern n code new bytes body len three low is put kept = record {
  here = ap (digit (n % 8)) (group-put (n / 8) bytes body three (omega arith) ∙ is) ∙ put;
  others = others-kept n new bytes body len three low is kept;
  before = take-with_bytes 1 (1 + 3 * (n / 8)) bytes body (omega arith) (omega arith);
  behind = drop-with_bytes-behind 8179 (1 + 3 * (n / 8)) bytes body (omega arith) (omega arith);
}
