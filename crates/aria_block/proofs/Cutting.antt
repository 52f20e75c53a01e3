-- A page without one of its parts: its entries, and what its edits make of it.
use Rattle.std.proofs.Common.{◌≡◌, ◌≢◌, ◌⊎◌, inl, inr, ℕ, zero, suc, ◌+◌, ◌*◌, ◌-◌, ◌/◌, ◌<◌, ◌≤◌, ◌==◌, nat_lt, Bool, true, false, cond, Some, None, List, [], ◌∷◌, ◌++◌, length, refl, sym, ap, ◌∙◌, arith, subst, eq-eqb, length-append}
use Rattle.std.proofs.lemmas.Bool.{cases_Bool, ne_eqb, eqb-true}
use Rattle.std.proofs.lemmas.Bool.Decides.{nat_tests}
use Rattle.aria_page.specs.Number.{number}
use Rattle.aria_block.specs.PartPage.{Items, text, part_in, entry_of, directory}
use Rattle.aria_block.specs.Cut.{moved, left_entry, left_directory}

-- ---- where a part stands among the others

-- Parts in front of that of a slot, and behind it.
pub record Around (items : Items) (slot : ℕ) (bytes : List ℕ) : Type 0 where
  pub front : Items
  pub back : Items
  pub is : items ≡ front ++ (slot, bytes) ∷ back
  pub free : part_in front slot ≡ None

pub around : (items : Items) (slot : ℕ) (bytes : List ℕ) → part_in items slot ≡ Some bytes → Around items slot bytes
around [] slot bytes is = absurd (cc)
around (item ∷ items) slot bytes is = elim (cases_Bool (item.0 == slot)) [
  | inl here ↦
      let same : Some item.1 ≡ Some bytes = rw here at is in
      let text_is : item.1 ≡ bytes = cc in
      record { front = []; back = items; is = λ i. (eqb-true item.0 slot here i, text_is i) ∷ items; free = refl }
  | inr other ↦
      let rest = around items slot bytes (rw other at is) in
      record { front = item ∷ rest.front; back = rest.back; is = ap (λ (l : Items). item ∷ l) rest.is; free = rw other rest.free }
]

-- ---- entries move down

-- An entry is none, or an offset and a length; where all parts lie further up its offset is more.
pub data Shifted (from k n m : ℕ) : Type 0 where
  absent : n ≡ 0 → m ≡ 0 → Shifted from k n m
  present : (at len : ℕ) → n ≡ 65536 * at + len → m ≡ 65536 * (at + k) + len → from ≤ at → len < 65536 → Shifted from k n m

pub shifted : (items : Items) (slot from k : ℕ) → length (text items) < 65536 → Shifted from k (entry_of slot from items) (entry_of slot (from + k) items)
shifted [] slot from k short = absent refl refl
shifted (item ∷ items) slot from k short = step (item.0 == slot) (entry_of slot (from + length item.1) items) (entry_of slot (from + k + length item.1) items)
    (subst (λ (a : ℕ). Shifted (from + length item.1) k (entry_of slot (from + length item.1) items) (entry_of slot a items)) (omega arith) (shifted items slot (from + length item.1) k (omega (arith, short, sizes))))
  where
    sizes : length (item.1 ++ text items) ≡ length item.1 + length (text items)
    sizes = length-append item.1 (text items)

    step : (b : Bool) (n m : ℕ) → Shifted (from + length item.1) k n m → Shifted from k (cond b (65536 * from + length item.1) n) (cond b (65536 * (from + k) + length item.1) m)
    step true n m is = present from (length item.1) refl refl (omega arith) (omega (arith, short, sizes))
    step false n m (absent a b) = absent a b
    step false n m (present at len a b low fits) = present at len a b (omega (arith, low)) fits

-- the entries of parts behind move down, and of no entry nothing is left
moved_behind : (at len n m : ℕ) → 1 ≤ at → Shifted at len n m → moved at len m ≡ n
moved_behind at len n m low (absent a b) = rw b (step (nat_lt at 0) (grind (arith, nat_tests))) ∙ sym a
  where
    step : (c : Bool) → c ≡ false → cond c (0 - 65536 * len) 0 ≡ 0
    step true e = absurd (cc)
    step false e = refl
moved_behind at len n m low (present place size a b from fits) = ap (moved at len) b ∙ step (cases_Bool (nat_lt at (place + len))) ∙ sym a
  where
    quotient : (65536 * (place + len) + size) / 65536 ≡ place + len
    quotient = omega (arith, fits)

    step : (nat_lt at (place + len) ≡ true) ⊎ (nat_lt at (place + len) ≡ false) → moved at len (65536 * (place + len) + size) ≡ 65536 * place + size
    step (inl more) = rw (quotient, more) (omega arith)
    step (inr no_more) =
        let none : len ≡ 0 = grind (arith, nat_tests) in
        rw (quotient, no_more) (omega (arith, none))

-- the entries of parts in front stay
moved_front : (at len from size : ℕ) → from ≤ at → size < 65536 → moved at len (65536 * from + size) ≡ 65536 * from + size
moved_front at len from size low fits = rw (quotient, not_above) refl
  where
    quotient : (65536 * from + size) / 65536 ≡ from
    quotient = omega (arith, fits)

    not_above : nat_lt at from ≡ false
    not_above = grind (arith, nat_tests)

-- an entry of another slot
pub entry_moved : (front back : Items) (slot i from : ℕ) (bytes : List ℕ) → 1 ≤ from → length (text front) + length bytes + length (text back) < 65536 → slot ≢ i
    → moved (from + length (text front)) (length bytes) (entry_of i from (front ++ (slot, bytes) ∷ back)) ≡ entry_of i from (front ++ back)
entry_moved [] back slot i from bytes low short other =
    let at : from + 0 ≡ from = omega arith in
    rw (ne_eqb slot i other, at) (moved_behind from (length bytes) (entry_of i from back) (entry_of i (from + length bytes) back) low (shifted back i from (length bytes) (omega (arith, short))))
entry_moved (item ∷ front) back slot i from bytes low short other = step (item.0 == i) (entry_of i (from + length item.1) (front ++ (slot, bytes) ∷ back)) (entry_of i (from + length item.1) (front ++ back))
    (subst (λ (a : ℕ). moved a (length bytes) (entry_of i (from + length item.1) (front ++ (slot, bytes) ∷ back)) ≡ entry_of i (from + length item.1) (front ++ back)) same
    (entry_moved front back slot i (from + length item.1) bytes (omega (arith, low)) (omega (arith, short, sizes)) other))
  where
    sizes : length (item.1 ++ text front) ≡ length item.1 + length (text front)
    sizes = length-append item.1 (text front)

    at : ℕ
    at = from + length (item.1 ++ text front)

    same : from + length item.1 + length (text front) ≡ at
    same = omega (arith, sizes)

    step : (b : Bool) (n m : ℕ) → moved at (length bytes) n ≡ m → moved at (length bytes) (cond b (65536 * from + length item.1) n) ≡ cond b (65536 * from + length item.1) m
    step true n m is = moved_front at (length bytes) from (length item.1) (omega (arith, sizes)) (omega (arith, short, sizes))
    step false n m is = is

-- the entry of the slot itself
pub entry_at : (front back : Items) (slot from : ℕ) (bytes : List ℕ) → part_in front slot ≡ None → entry_of slot from (front ++ (slot, bytes) ∷ back) ≡ 65536 * (from + length (text front)) + length bytes
entry_at [] back slot from bytes free = rw (eq-eqb slot slot refl) (omega arith)
entry_at (item ∷ front) back slot from bytes free = step (item.0 == slot) (entry_of slot (from + length item.1) (front ++ (slot, bytes) ∷ back)) free (λ none. entry_at front back slot (from + length item.1) bytes none)
  where
    sizes : length (item.1 ++ text front) ≡ length item.1 + length (text front)
    sizes = length-append item.1 (text front)

    step : (b : Bool) (n : ℕ) → cond b (Some item.1) (part_in front slot) ≡ None → (part_in front slot ≡ None → n ≡ 65536 * (from + length item.1 + length (text front)) + length bytes)
        → cond b (65536 * from + length item.1) n ≡ 65536 * (from + length (item.1 ++ text front)) + length bytes
    step true n gone more = absurd (cc)
    step false n gone more = more gone ∙ omega (arith, sizes)

-- the directory that is left
pub directory_left : (body : List ℕ) (nth at len n : ℕ) (items : Items) → ((i : ℕ) → i < n → left_entry body nth at len i ≡ entry_of i 4 items) → left_directory body nth at len n ≡ directory n items
directory_left body nth at len zero items each = refl
directory_left body nth at len (suc n) items each = λ i. number 4 (each n (omega arith) i) ++ directory_left body nth at len n items (λ j lt. each j (omega (arith, lt))) i

pub directory_step : (body : List ℕ) (nth at len n : ℕ) → 1 ≤ n → left_directory body nth at len n ≡ number 4 (left_entry body nth at len (n - 1)) ++ left_directory body nth at len (n - 1)
directory_step body nth at len zero some = absurd (omega (arith, some))
directory_step body nth at len (suc n) some =
    let same : n ≡ suc n - 1 = omega arith in
    ap (λ (m : ℕ). number 4 (left_entry body nth at len m) ++ left_directory body nth at len m) same
