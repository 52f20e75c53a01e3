-- What two entries have in common, and which comes first.
use Rattle.std.proofs.Common.{◌≡◌, ℕ, zero, suc, ◌+◌, ◌<◌, ◌≤◌, List, [], ◌∷◌, ◌++◌, length, take, drop, get_or, ◌⊎◌, refl, sym, arith, inl, inr}
use Rattle.std.specs.declared.cmp.Ordering.TheVariants.{Equal}
use Rattle.std.specs.Ordering.{nat_cmp}
use Rattle.std.specs.Cmp.Lexicographic.{slice_cmp}
use Rattle.std.proofs.lemmas.Bool.Decides.{nat_tests}
use Rattle.std.proofs.lemmas.List.{drop_all}
use Rattle.aria_keypage.specs.Packed.{common_length}

-- no more than each of them has
pub common-le : (a b : List ℕ) → (common_length a b ≤ length a) × (common_length a b ≤ length b)
common-le [] b = (omega arith, omega arith)
common-le (x ∷ a) [] = (omega arith, omega arith)
common-le (x ∷ a) (y ∷ b) = let h = common-le a b in (grind (arith, nat_tests, h.0), grind (arith, nat_tests, h.1))

-- where both go on behind what they have in common, the next bytes decide
pub order-differ : (a b : List ℕ) → common_length a b < length a → common_length a b < length b → slice_cmp nat_cmp a b ≡ nat_cmp (get_or a (common_length a b) 0) (get_or b (common_length a b) 0)
order-differ [] b p q = absurd (omega arith)
order-differ (x ∷ a) [] p q = absurd (omega arith)
order-differ (x ∷ a) (y ∷ b) p q = grind (arith, nat_tests, order-differ a b)

-- where one of them ends there, the shorter one comes first
pub order-front : (a b : List ℕ) (n : ℕ) → common_length a b ≡ n → (length a ≤ n → slice_cmp nat_cmp a b ≡ nat_cmp (length a) (length b)) × (length b ≤ n → slice_cmp nat_cmp a b ≡ nat_cmp (length a) (length b))
order-front [] [] n e = (λ h. refl, λ h. refl)
order-front [] (y ∷ b) n e = (λ h. grind (arith, nat_tests), λ h. absurd (omega arith))
order-front (x ∷ a) [] n e = (λ h. absurd (omega arith), λ h. grind (arith, nat_tests))
order-front (x ∷ a) (y ∷ b) n e = let h = order-front a b (common_length a b) refl in (λ k. grind (arith, nat_tests, h.0), λ k. grind (arith, nat_tests, h.1))

-- the common bytes are the same in both
pub take-common : (n : ℕ) (a b : List ℕ) → n ≤ common_length a b → take n a ≡ take n b
take-common zero a b h = refl
take-common (suc n) [] b h = absurd (omega arith)
take-common (suc n) (x ∷ a) [] h = absurd (omega arith)
take-common (suc n) (x ∷ a) (y ∷ b) h = grind (arith, nat_tests, take-common n a b)

-- past bytes that they have in common, they have the rest in common
pub common-drop : (n : ℕ) (a b : List ℕ) → n ≤ common_length a b → common_length a b ≡ n + common_length (drop n a) (drop n b)
common-drop zero a b h = omega arith
common-drop (suc n) [] b h = absurd (omega arith)
common-drop (suc n) (x ∷ a) [] h = absurd (omega arith)
common-drop (suc n) (x ∷ a) (y ∷ b) h = grind (arith, nat_tests, common-drop n a b)

-- past bytes that they have in common, the order is that of the rest
pub order-drop : (n : ℕ) (a b : List ℕ) → n ≤ common_length a b → slice_cmp nat_cmp a b ≡ slice_cmp nat_cmp (drop n a) (drop n b)
order-drop zero a b h = refl
order-drop (suc n) [] b h = absurd (omega arith)
order-drop (suc n) (x ∷ a) [] h = absurd (omega arith)
order-drop (suc n) (x ∷ a) (y ∷ b) h = grind (arith, nat_tests, order-drop n a b)

-- the same bytes in front of both are had in common
pub common-same : (t a b : List ℕ) → common_length (t ++ a) (t ++ b) ≡ length t + common_length a b
common-same [] a b = omega arith
common-same (x ∷ t) a b = grind (arith, nat_tests, common-same t a b)

-- an entry that shares more with the one before than that one shares with what is sought, differs from what is sought where the one before does
pub common-beyond : (p c k : List ℕ) → common_length p k < common_length p c → common_length c k ≡ common_length p k
common-beyond [] c k h = absurd (omega arith)
common-beyond (x ∷ p) [] k h = absurd (omega arith)
common-beyond (x ∷ p) (y ∷ c) [] h = refl
common-beyond (x ∷ p) (y ∷ c) (z ∷ k) h = grind (arith, nat_tests, common-beyond p c k)

-- and stands where the one before stands
pub below-beyond : (p c k : List ℕ) → common_length p k < common_length p c → slice_cmp nat_cmp c k ≡ slice_cmp nat_cmp p k
below-beyond [] c k h = absurd (omega arith)
below-beyond (x ∷ p) [] k h = absurd (omega arith)
below-beyond (x ∷ p) (y ∷ c) [] h = refl
below-beyond (x ∷ p) (y ∷ c) (z ∷ k) h = grind (arith, nat_tests, below-beyond p c k)

-- two that have all of both in common are the same
pub order-same : (a b : List ℕ) → slice_cmp nat_cmp a b ≡ Equal → a ≡ b
order-same [] [] h = refl
order-same [] (y ∷ b) h = absurd cc
order-same (x ∷ a) [] h = absurd cc
order-same (x ∷ a) (y ∷ b) h = grind (arith, nat_tests, order-same a b)

-- nothing is had in common with nothing
pub common-nil : (a : List ℕ) → common_length a [] ≡ 0
common-nil [] = refl
common-nil (x ∷ a) = refl

-- nothing is had in common where one of them has ended
pub common-ended : (a b : List ℕ) (n : ℕ) → length b ≤ n → common_length (drop n a) (drop n b) ≡ 0
common-ended a b n h = rw (drop_all n b h) (common-nil (drop n a))

-- the order of two, where both go on
pub order-at : (a b : List ℕ) (n : ℕ) → n ≡ common_length a b → n < length a → n < length b → slice_cmp nat_cmp a b ≡ nat_cmp (get_or a n 0) (get_or b n 0)
order-at a b n e p q = rw e (order-differ a b (omega arith) (omega arith))

-- the order of two, where one has ended
pub order-ended : (a b : List ℕ) (n : ℕ) → n ≡ common_length a b → ((n < length a) × (length b ≤ n)) ⊎ (length a ≤ n) → slice_cmp nat_cmp a b ≡ nat_cmp (length a) (length b)
order-ended a b n e h = elim h [ inl w ↦ (order-front a b n (sym e)).1 w.1 | inr w ↦ (order-front a b n (sym e)).0 w ]

-- bytes that one has in common with both, both have in common
pub common-both : (p c k : List ℕ) (n : ℕ) → n ≤ common_length p c → n ≤ common_length p k → n ≤ common_length c k
common-both p c k zero h g = omega arith
common-both [] c k (suc n) h g = absurd (omega arith)
common-both (x ∷ p) [] k (suc n) h g = absurd (omega arith)
common-both (x ∷ p) (y ∷ c) [] (suc n) h g = absurd (omega arith)
common-both (x ∷ p) (y ∷ c) (z ∷ k) (suc n) h g = grind (arith, nat_tests, common-both p c k n)

-- what two have in common, they have in common the other way round
pub common-turn : (a b : List ℕ) → common_length a b ≡ common_length b a
common-turn [] b = sym (common-nil b)
common-turn (x ∷ a) [] = refl
common-turn (x ∷ a) (y ∷ b) = grind (arith, nat_tests, common-turn a b)
