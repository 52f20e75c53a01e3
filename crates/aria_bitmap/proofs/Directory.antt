-- Whether directory entries are used.
use Rattle.std.proofs.Common.{◌≡◌, ℕ, zero, suc, ◌+◌, ◌<◌, Bool, true, false, List, refl, sym, ap, ◌∙◌, arith, inl, inr}
use Rattle.std.specs.Prelude.{◌&&◌, ◌==◌}
use Rattle.std.proofs.lemmas.Bool.{cases_eq}
use Rattle.aria_bitmap.specs.Code.{entry, all_used}

-- none of no entries is unused
pub used-none : (body : List ℕ) → all_used body 0 ≡ true
unfolding all_used
used-none body = refl

-- one more used entry
pub used-more : (body : List ℕ) (n : ℕ) → all_used body n ≡ true → (entry body n == 0) ≡ false → all_used body (n + 1) ≡ true
unfolding all_used
used-more body n all one =
    let next : n + 1 ≡ suc n = omega arith in
    rw (next, all_used, all, one) refl

-- an unused entry
pub unused : (body : List ℕ) (n m : ℕ) → n < m → (entry body n == 0) ≡ true → all_used body m ≡ false
unfolding all_used
unused body n zero lt none = absurd (omega arith)
unused body n (suc m) lt none =
    elim (cases_eq n m) [
      | inl same ↦
          let here : (entry body m == 0) ≡ true = ap (λ (k : ℕ). entry body k == 0) (sym same) ∙ none in
          rw here (no_more (all_used body m))
      | inr other ↦ rw (unused body n m (omega arith) none) refl
    ]
  where
    no_more : (b : Bool) → (b && false) ≡ false
    no_more true = refl
    no_more false = refl
