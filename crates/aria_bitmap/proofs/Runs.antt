-- What a search in the patterns tells of rooms and of runs.
use Rattle.std.proofs.Common.{◌≡◌, ◌≢◌, ℕ, zero, suc, ◌+◌, ◌<◌, ◌≤◌, Bool, true, false, List, [], ◌∷◌, get_or, refl, sym, ap, ◌∙◌, arith, inl, inr}
use Rattle.std.specs.Prelude.{IsTrue}
use Rattle.std.proofs.lemmas.Bool.{cases_lt}
use Rattle.aria_bitmap.specs.Pattern.{pattern}
use Rattle.aria_bitmap.specs.Promise.{promises, IsFreeRun}
use Rattle.aria_bitmap.proofs.Patterns.{pattern-lt}

-- where the codes that promise a part are sought, a pattern promises it exactly where it is sought
pub promises_as : (codes : List Bool) (tail : Bool) (bytes : ℕ) → ((code : ℕ) → code < 8 → get_or codes code false ≡ promises tail bytes code)
    → (body : List ℕ) (m : ℕ) → promises tail bytes (pattern body m) ≡ get_or codes (pattern body m) false
promises_as codes tail bytes is body m = sym (is (pattern body m) (pattern-lt body m))

-- a pattern that isn't sought promises nothing
pub no_promise : (codes : List Bool) (tail : Bool) (bytes : ℕ) → ((code : ℕ) → code < 8 → get_or codes code false ≡ promises tail bytes code)
    → (shown body : List ℕ) → shown ≡ body → (n : ℕ) → ((m : ℕ) → 0 ≤ m → m < n → get_or codes (pattern shown m) false ≡ false)
    → (m : ℕ) → m < n → IsTrue (promises tail bytes (pattern body m)) → ⊥
no_promise codes tail bytes is shown body same n none m lt promised =
    let here : get_or codes (pattern body m) false ≡ false = ap (λ (l : List ℕ). get_or codes (pattern l m) false) (sym same) ∙ none m (omega arith) lt in
    let told : promises tail bytes (pattern body m) ≡ get_or codes (pattern body m) false = promises_as codes tail bytes is body m in
    absurd cc

-- the table of the code of free pages
abbrev pub free_codes : List Bool
free_codes = true ∷ false ∷ false ∷ false ∷ false ∷ false ∷ false ∷ false ∷ []

-- the table of all other codes
abbrev pub used_codes : List Bool
used_codes = false ∷ true ∷ true ∷ true ∷ true ∷ true ∷ true ∷ true ∷ []

-- what isn't sought among free pages isn't free
not_free : (free : List Bool) → free ≡ free_codes → (p : ℕ) → get_or free p false ≡ false → p ≢ 0
not_free free is p none = past p (ap (λ (codes : List Bool). get_or codes p false) (sym is) ∙ none)
  where
    past : (q : ℕ) → get_or free_codes q false ≡ false → q ≢ 0
    past zero e = absurd cc
    past (suc q) e = λ z. absurd (omega arith)

-- what is found among used pages isn't free
is_used : (used : List Bool) → used ≡ used_codes → (p : ℕ) → get_or used p false ≡ true → p ≢ 0
is_used used is p found = past p (ap (λ (codes : List Bool). get_or codes p false) (sym is) ∙ found)
  where
    past : (q : ℕ) → get_or used_codes q false ≡ true → q ≢ 0
    past zero e = absurd cc
    past (suc q) e = λ z. absurd (omega arith)

-- what isn't found among used pages is free
is_free : (used : List Bool) → used ≡ used_codes → (p : ℕ) → p < 8 → get_or used p false ≡ false → p ≡ 0
is_free used is p low none = first p low (ap (λ (codes : List Bool). get_or codes p false) (sym is) ∙ none)
  where
    first : (q : ℕ) → q < 8 → get_or used_codes q false ≡ false → q ≡ 0
    first zero lt e = refl
    first (suc zero) lt e = absurd cc
    first (suc (suc zero)) lt e = absurd cc
    first (suc (suc (suc zero))) lt e = absurd cc
    first (suc (suc (suc (suc zero)))) lt e = absurd cc
    first (suc (suc (suc (suc (suc zero))))) lt e = absurd cc
    first (suc (suc (suc (suc (suc (suc zero)))))) lt e = absurd cc
    first (suc (suc (suc (suc (suc (suc (suc zero))))))) lt e = absurd cc
    first (suc (suc (suc (suc (suc (suc (suc (suc q)))))))) lt e = absurd (omega arith)

-- no used page from n on: a run
pub run_found : (used : List Bool) → used ≡ used_codes → (shown body : List ℕ) → shown ≡ body → (pages n end : ℕ) → end ≡ n + pages → n + pages ≤ 21808
    → ((m : ℕ) → n ≤ m → m < end → get_or used (pattern shown m) false ≡ false)
    → IsFreeRun body pages n
run_found used is shown body same pages n end at within none = record {
  within = within;
  free = λ m low high. is_free used is (pattern body m) (pattern-lt body m) (ap (λ (l : List ℕ). get_or used (pattern l m) false) (sym same) ∙ none m low (omega arith));
}

-- a used page in the way, and no free page from it on up to the next place: no run begins before that
pub no_run_before : (free used : List Bool) → free ≡ free_codes → used ≡ used_codes → (shown body : List ℕ) → shown ≡ body
    → (pages n end next : ℕ) → ((m : ℕ) → m < n → IsFreeRun body pages m → ⊥)
    → n ≤ end → end < n + pages → get_or used (pattern shown end) false ≡ true
    → ((m : ℕ) → end + 1 ≤ m → m < next → get_or free (pattern shown m) false ≡ false)
    → (m : ℕ) → m < next → IsFreeRun body pages m → ⊥
no_run_before free used is_f is_u shown body same pages n end next none low high found rest m lt run =
    elim (cases_lt m n) [
      | inl before ↦ none m before run
      | inr from ↦ elim (cases_lt end m) [
        | inl past ↦
            not_free free is_f (pattern body m) (ap (λ (l : List ℕ). get_or free (pattern l m) false) (sym same) ∙ rest m (omega arith) lt)
            (run.free m (omega arith) (omega arith))
        | inr across ↦
            is_used used is_u (pattern body end) (ap (λ (l : List ℕ). get_or used (pattern l end) false) (sym same) ∙ found)
            (run.free end across (omega arith))
      ]
    ]

-- no room for a run
pub no_run_left : (body : List ℕ) (pages n : ℕ) → ((m : ℕ) → m < n → IsFreeRun body pages m → ⊥) → 21808 < n + pages
    → (m : ℕ) → IsFreeRun body pages m → ⊥
no_run_left body pages n none past m run =
    elim (cases_lt m n) [
      | inl before ↦ none m before run
      | inr from ↦ let fits = run.within in absurd (omega arith)
    ]
