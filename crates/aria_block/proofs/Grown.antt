-- A data file with one page more.
use Rattle.std.proofs.Common.{◌≡◌, ◌≢◌, ℕ, ◌+◌, ◌*◌, ◌/◌, ◌%◌, ◌≤◌, ◌==◌, cond, inl, inr, List, [], ◌∷◌, length, drop, get_or, refl, sym, ap, ◌∙◌, arith, subst, eq-eqb}
use Rattle.std.specs.Prelude.{slice_index}
use Rattle.std.proofs.lemmas.Bool.{cases_eq, ne_eqb}
use Rattle.std.proofs.lemmas.List.{get_or-drop}
use Rattle.aria_page.specs.Edit.{edited, all_edited}
use Rattle.aria_page.specs.Page.{with_bytes}
use Rattle.aria_page.proofs.Pages.{length-with_bytes}
use Rattle.aria_bitmap.specs.Code.{code}
use Rattle.aria_bitmap.specs.Pattern.{group, pattern}
use Rattle.aria_block.specs.Pieces.{Pieces}
use Rattle.aria_block.specs.DataFile.{HoldsPage, map_of, nth_of, IsDataFile}
use Rattle.aria_block.specs.Growing.{new_kind, first_byte}

-- another first byte
first_set : (x : ℕ) (body : List ℕ) → 1 ≤ length body → drop 1 (with_bytes 0 (x ∷ []) body) ≡ drop 1 body
unfolding with_bytes
first_set x [] some = absurd (omega (arith, some))
first_set x (y ∷ body) some = refl

-- leaves all patterns
pattern_first : (x : ℕ) (body : List ℕ) (m : ℕ) → 1 ≤ length body → pattern (with_bytes 0 (x ∷ []) body) m ≡ pattern body m
unfolding pattern group
pattern_first x body m some =
    let new : List ℕ = with_bytes 0 (x ∷ []) body in
    let same : (k : ℕ) → get_or new (1 + k) 0 ≡ get_or body (1 + k) 0 = λ k. sym (get_or-drop 1 new k 0) ∙ ap (λ (l : List ℕ). get_or l k 0) (first_set x body some) ∙ get_or-drop 1 body k 0 in
    let g : ℕ = m / 8 in
    let one : 1 + (1 + 3 * g) ≡ 2 + 3 * g = omega arith in
    let two : 1 + (2 + 3 * g) ≡ 3 + 3 * g = omega arith in
    let b0 : get_or new (1 + 3 * g) 0 ≡ get_or body (1 + 3 * g) 0 = same (3 * g) in
    let b1 : get_or new (2 + 3 * g) 0 ≡ get_or body (2 + 3 * g) 0 = subst (λ (i : ℕ). get_or new i 0 ≡ get_or body i 0) one (same (1 + 3 * g)) in
    let b2 : get_or new (3 + 3 * g) 0 ≡ get_or body (3 + 3 * g) 0 = subst (λ (i : ℕ). get_or new i 0 ≡ get_or body i 0) two (same (2 + 3 * g)) in
    cc

-- and the first byte that a page has
first_same : (body : List ℕ) → 1 ≤ length body → with_bytes 0 (slice_index body 0 ∷ []) body ≡ body
unfolding with_bytes
first_same [] some = absurd (omega (arith, some))
first_same (y ∷ body) some = refl

first_is : (x : ℕ) (body : List ℕ) → slice_index (with_bytes 0 (x ∷ []) body) 0 ≡ x
unfolding with_bytes
first_is x body = refl

-- one page is the new one
unfoldable pub with_new : ℕ → (ℕ → List ℕ) → ℕ → List ℕ
with_new n body = λ m. cond (n == m) (all_edited (first_byte n) (body m)) (body m)

module _ (n : ℕ) (body : ℕ → List ℕ) (pieces : Pieces) (file : IsDataFile n body pieces) (zero_first : slice_index (body n) 0 ≡ 0) where
  some : (m : ℕ) → 1 ≤ length (body m)
  some m = omega (arith, file.long m)

  elsewhere : (m : ℕ) → m ≢ n → with_new n body m ≡ body m
  unfolding with_new
  elsewhere m other = rw (ne_eqb n m (λ e. other (sym e))) refl

  here : with_new n body n ≡ with_bytes 0 (new_kind n ∷ []) (body n)
  unfolding with_new edited
  here = rw (eq-eqb n n refl) refl

  -- a page that isn't a bitmap page stays
  plain_same : (m : ℕ) → m % 21809 ≢ 0 → with_new n body m ≡ body m
  plain_same m plain = elim (cases_eq m n) [
    | inl same ↦ subst (λ (k : ℕ). with_new n body k ≡ body k) (sym same)
        (here ∙ ap (λ (x : ℕ). with_bytes 0 (x ∷ []) (body n)) (rw (ne_eqb (n % 21809) 0 (subst (λ (k : ℕ). k % 21809 ≢ 0) same plain)) (sym zero_first)) ∙ first_same (body n) (some n))
    | inr other ↦ elsewhere m other
  ]

  pub grown : IsDataFile (n + 1) (with_new n body) pieces
  grown = record {
    long = λ m. elim (cases_eq m n) [
      | inl same ↦ subst (λ (k : ℕ). length (with_new n body k) ≡ 8181) (sym same) (ap length here ∙ length-with_bytes 0 (new_kind n ∷ []) (body n) (some n) ∙ file.long n)
      | inr other ↦ ap length (elsewhere m other) ∙ file.long m
    ];
    map = λ m is low. elim (cases_eq m n) [
      | inl same ↦ subst (λ (k : ℕ). slice_index (with_new n body k) 0 ≡ 2) (sym same)
          (ap (λ (t : List ℕ). slice_index t 0) here ∙ first_is (new_kind n) (body n) ∙ rw (eq-eqb (n % 21809) 0 (subst (λ (k : ℕ). k % 21809 ≡ 0) same is)) refl)
      | inr other ↦ ap (λ (t : List ℕ). slice_index t 0) (elsewhere m other) ∙ file.map m is (omega (arith, low, other))
    ];
    none = file.none;
    page = λ m plain. subst (λ (t : List ℕ). HoldsPage t (pieces m)) (sym (plain_same m plain)) (file.page m plain);
    code = λ m plain. same_pattern (map_of m) (nth_of m) ∙ file.code m plain ∙ ap code (sym (plain_same m plain));
  }
    where
      same_pattern : (k i : ℕ) → pattern (with_new n body k) i ≡ pattern (body k) i
      same_pattern k i = elim (cases_eq k n) [
        | inl same ↦ subst (λ (j : ℕ). pattern (with_new n body j) i ≡ pattern (body j) i) (sym same) (ap (λ (t : List ℕ). pattern t i) here ∙ pattern_first (new_kind n) (body n) i (some n))
        | inr other ↦ ap (λ (t : List ℕ). pattern t i) (elsewhere k other)
      ]
