-- Parts with their slots: one more, and one less.
use Rattle.std.proofs.Common.{◌≡◌, ◌≢◌, ◌⊎◌, inl, inr, ℕ, ◌+◌, ◌-◌, ◌*◌, ◌≤◌, Bool, true, false, cond, ◌==◌, Option, Some, None, List, [], ◌∷◌, ◌++◌, length, refl, sym, ap, ◌∙◌, arith, length-append, append_assoc, eq-eqb, subst}
use Rattle.std.proofs.lemmas.List.{append-nil}
use Rattle.std.proofs.lemmas.Bool.{cases_eq, cases_lt, ne_eqb, eqb-true}
use Rattle.aria_block.specs.PartPage.{Items, text, part_in, entry_of, AreDistinct}

-- ---- one more item

pub text-push : (items : Items) (slot : ℕ) (bytes : List ℕ) → text (items ++ (slot, bytes) ∷ []) ≡ text items ++ bytes
text-push [] slot bytes = append-nil bytes
text-push (item ∷ items) slot bytes = ap (λ (l : List ℕ). item.1 ++ l) (text-push items slot bytes) ∙ sym (append_assoc item.1 (text items) bytes)

-- in another slot
pub part_other : (items : Items) (slot i : ℕ) (bytes : List ℕ) → (slot == i) ≡ false → part_in (items ++ (slot, bytes) ∷ []) i ≡ part_in items i
part_other [] slot i bytes other = rw other refl
part_other (item ∷ items) slot i bytes other = ap (cond (item.0 == i) (Some item.1)) (part_other items slot i bytes other)

here_step : (b : Bool) (x y : List ℕ) (was new : Option (List ℕ)) → cond b (Some x) was ≡ None → (was ≡ None → new ≡ Some y) → cond b (Some x) new ≡ Some y
here_step true x y was new none more = absurd (cc)
here_step false x y was new none more = more none

-- in its own
pub part_here : (items : Items) (slot : ℕ) (bytes : List ℕ) → part_in items slot ≡ None → part_in (items ++ (slot, bytes) ∷ []) slot ≡ Some bytes
part_here [] slot bytes none = rw (eq-eqb slot slot refl) refl
part_here (item ∷ items) slot bytes none = here_step (item.0 == slot) item.1 bytes (part_in items slot) (part_in (items ++ (slot, bytes) ∷ []) slot) none (part_here items slot bytes)

pub entry_other : (items : Items) (slot i from : ℕ) (bytes : List ℕ) → (slot == i) ≡ false → entry_of i from (items ++ (slot, bytes) ∷ []) ≡ entry_of i from items
entry_other [] slot i from bytes other = rw other refl
entry_other (item ∷ items) slot i from bytes other = ap (cond (item.0 == i) (65536 * from + length item.1)) (entry_other items slot i (from + length item.1) bytes other)

entry_step : (b : Bool) (x : List ℕ) (was : Option (List ℕ)) (n new m : ℕ) → cond b (Some x) was ≡ None → (was ≡ None → new ≡ m) → cond b n new ≡ m
entry_step true x was n new m none more = absurd (cc)
entry_step false x was n new m none more = more none

pub entry_here : (items : Items) (slot from : ℕ) (bytes : List ℕ) → part_in items slot ≡ None → entry_of slot from (items ++ (slot, bytes) ∷ []) ≡ 65536 * (from + length (text items)) + length bytes
entry_here [] slot from bytes none = rw (eq-eqb slot slot refl) (omega arith)
entry_here (item ∷ items) slot from bytes none =
    entry_step (item.0 == slot) item.1 (part_in items slot) (65536 * from + length item.1) _ _ none
    (λ free. entry_here items slot (from + length item.1) bytes free ∙ omega (arith, length-append item.1 (text items)))

-- a slot that has none gets one
pub distinct_push : (items : Items) (slot : ℕ) (bytes : List ℕ) → AreDistinct items → part_in items slot ≡ None → AreDistinct (items ++ (slot, bytes) ∷ [])
distinct_push [] slot bytes d none = (refl, tt)
distinct_push (item ∷ items) slot bytes d none =
    let other : (item.0 == slot) ≡ false = away (item.0 == slot) none in
    (part_other items slot item.0 bytes (elim (cases_eq slot item.0) [ inl same ↦ absurd (differ same other) | inr ne ↦ ne_eqb slot item.0 ne ]) ∙ d.0, distinct_push items slot bytes d.1 (rest (item.0 == slot) none))
  where
    away : (b : Bool) → cond b (Some item.1) (part_in items slot) ≡ None → b ≡ false
    away true e = absurd (cc)
    away false e = refl

    rest : (b : Bool) → cond b (Some item.1) (part_in items slot) ≡ None → part_in items slot ≡ None
    rest true e = absurd (cc)
    rest false e = e

    differ : slot ≡ item.0 → (item.0 == slot) ≡ false → ⊥
    differ same e = let yes : (item.0 == slot) ≡ true = eq-eqb item.0 slot (sym same) in absurd (cc)

-- two directory entries lie beside each other
pub entries_apart : (i slot : ℕ) → 4 * (i + 1) ≤ 8181 → 4 * (slot + 1) ≤ 8181 → slot ≢ i → 8181 - 4 * (i + 1) + 4 ≤ 8181 - 4 * (slot + 1) ⊎ 8181 - 4 * (slot + 1) + 4 ≤ 8181 - 4 * (i + 1)
entries_apart i slot low low' other = elim (cases_lt i slot) [ inl lt ↦ inr (omega (arith, lt, low')) | inr le ↦ inl (omega (arith, le, low, other)) ]

none_step : (b : Bool) (x : List ℕ) (was : Option (List ℕ)) (m n : ℕ) → cond b (Some x) was ≡ None → (was ≡ None → n ≡ 0) → cond b m n ≡ 0
none_step true x was m n none more = absurd (cc)
none_step false x was m n none more = more none

-- a slot without a part has an unused entry
pub entry_none : (items : Items) (slot from : ℕ) → part_in items slot ≡ None → entry_of slot from items ≡ 0
entry_none [] slot from none = refl
entry_none (item ∷ items) slot from none = none_step (item.0 == slot) item.1 (part_in items slot) _ _ none (entry_none items slot (from + length item.1))

-- ---- one item less

pub text-append : (a b : Items) → text (a ++ b) ≡ text a ++ text b
text-append [] b = refl
text-append (item ∷ a) b = ap (λ (l : List ℕ). item.1 ++ l) (text-append a b) ∙ sym (append_assoc item.1 (text a) (text b))

-- the part of another slot
pub part_without : (front back : Items) (slot i : ℕ) (bytes : List ℕ) → (slot == i) ≡ false → part_in (front ++ (slot, bytes) ∷ back) i ≡ part_in (front ++ back) i
part_without [] back slot i bytes other = rw other refl
part_without (item ∷ front) back slot i bytes other = ap (cond (item.0 == i) (Some item.1)) (part_without front back slot i bytes other)

found_step : (b : Bool) (x : List ℕ) (was : Option (List ℕ)) → cond b (Some x) was ≡ None → (was ≡ None → ⊥) → ⊥
found_step true x was e more = absurd (cc)
found_step false x was e more = more e

-- it had one
found : (front back : Items) (slot : ℕ) (bytes : List ℕ) → part_in (front ++ (slot, bytes) ∷ back) slot ≡ None → ⊥
found [] back slot bytes none = found_step (slot == slot) bytes (part_in back slot) none (λ more. absurd (gone_not (slot == slot) (eq-eqb slot slot refl) none))
  where
    gone_not : (b : Bool) → b ≡ true → cond b (Some bytes) (part_in back slot) ≡ None → ⊥
    gone_not true t e = absurd (cc)
    gone_not false t e = absurd (cc)
found (item ∷ front) back slot bytes none = found_step (item.0 == slot) item.1 (part_in (front ++ (slot, bytes) ∷ back) slot) none (found front back slot bytes)

-- the slot has none then
pub part_gone : (front back : Items) (slot : ℕ) (bytes : List ℕ) → AreDistinct (front ++ (slot, bytes) ∷ back) → part_in (front ++ back) slot ≡ None
part_gone [] back slot bytes d = d.0
part_gone (item ∷ front) back slot bytes d = apart (item.0 == slot) refl (part_gone front back slot bytes d.1)
  where
    apart : (b : Bool) → (item.0 == slot) ≡ b → part_in (front ++ back) slot ≡ None → cond b (Some item.1) (part_in (front ++ back) slot) ≡ None
    apart false e rest = rest
    apart true e rest = absurd (found front back slot bytes (subst (λ (n : ℕ). part_in (front ++ (slot, bytes) ∷ back) n ≡ None) (eqb-true item.0 slot e) d.0))

pub distinct_without : (front back : Items) (slot : ℕ) (bytes : List ℕ) → AreDistinct (front ++ (slot, bytes) ∷ back) → AreDistinct (front ++ back)
distinct_without [] back slot bytes d = d.1
distinct_without (item ∷ front) back slot bytes d = (keep (slot == item.0) refl, distinct_without front back slot bytes d.1)
  where
    keep : (b : Bool) → (slot == item.0) ≡ b → part_in (front ++ back) item.0 ≡ None
    keep false e = sym (part_without front back slot item.0 bytes e) ∙ d.0
    keep true e = subst (λ (n : ℕ). part_in (front ++ back) n ≡ None) (eqb-true slot item.0 e) (part_gone front back slot bytes d.1)
