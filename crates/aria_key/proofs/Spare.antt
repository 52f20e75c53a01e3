-- Pages that are taken: what is left of the free ones, and that nothing has a page twice.
use Rattle.std.proofs.Common.{◌≡◌, ◌==◌, ◌&&◌, ℕ, ◌+◌, ◌<◌, ◌≤◌, max, Bool, true, false, cond, Option, List, [], ◌∷◌, refl, ap, ◌∙◌, arith, nat_le, inl, inr}
use Rattle.std.specs.Prelude.{nat_lt}
use Rattle.std.specs.List.{AllByRecursion}
use Rattle.std.proofs.lemmas.Bool.{cases_lt, eq-eqb, eqb-true}
use Rattle.std.proofs.lemmas.Bool.Decides.{nat_tests}
use Rattle.aria_key.specs.Tree.{Placed}
use Rattle.aria_key.specs.Owned.{times_in}
use Rattle.aria_key.specs.IndexFile.{IsChain, times_free}
use Rattle.aria_key.specs.Taking.{IsTaken, AreApart, AreTaken}

abbrev pub flag : Bool → ℕ
flag b = cond b 1 0

-- whether a number lies in a span
abbrev pub span : ℕ → ℕ → ℕ → ℕ
span before count n = cond (nat_le before n && nat_lt n count) 1 0

pub span-most : (before count n : ℕ) → span before count n ≤ 1
span-most before count n = by (nat_le before n && nat_lt n count)
  where
    by : (t : Bool) → flag t ≤ 1
    by true = omega arith
    by false = omega arith

pub span-under : (before count n : ℕ) → n < before → span before count n ≡ 0
span-under before count n h =
    let t : nat_le before n ≡ false = grind (arith, nat_tests) in
    ap (λ (b : Bool). flag (b && nat_lt n count)) t

pub span-over : (before count n : ℕ) → count ≤ n → span before count n ≡ 0
span-over before count n h =
    let t : nat_lt n count ≡ false = grind (arith, nat_tests) in
    ap (λ (b : Bool). flag (nat_le before n && b)) t ∙ by (nat_le before n)
  where
    by : (b : Bool) → flag (b && false) ≡ flag false
    by true = refl
    by false = refl

pub span-in : (before count n : ℕ) → before ≤ n → n < count → span before count n ≡ 1
span-in before count n low high =
    let s : nat_le before n ≡ true = grind (arith, nat_tests) in
    let t : nat_lt n count ≡ true = grind (arith, nat_tests) in
    λ i. flag (s i && t i)

-- a page more behind the end
pub span-more : (before count n : ℕ) → before ≤ count → span before (count + 1) n ≡ flag (n == count) + span before count n
span-more before count n h = by (n == count) refl
  where
    by : (b : Bool) → (n == count) ≡ b → span before (count + 1) n ≡ flag b + span before count n
    by true e =
        let same : n ≡ count = eqb-true n count e in
        omega (arith, span-in before (count + 1) n (omega (arith, same, h)) (omega (arith, same)), span-over before count n (omega (arith, same)))
    by false e = elim (cases_lt n before) as (λ _. span before (count + 1) n ≡ 0 + span before count n) [
      | inl lt ↦ omega (arith, span-under before (count + 1) n lt, span-under before count n lt)
      | inr ge ↦ elim (cases_lt n count) as (λ _. span before (count + 1) n ≡ 0 + span before count n) [
        | inl low ↦ omega (arith, span-in before (count + 1) n (omega (arith, ge)) (omega (arith, low)), span-in before count n (omega (arith, ge)) low)
        | inr high ↦ elim (cases_lt count n) as (λ _. span before (count + 1) n ≡ 0 + span before count n) [
          | inl over ↦ omega (arith, span-over before (count + 1) n (omega (arith, over)), span-over before count n (omega (arith, high)))
          | inr not ↦ let same : n ≡ count = omega (arith, high, not) in let t : (n == count) ≡ true = eq-eqb n count same in absurd cc
        ]
      ]
    ]

-- a chain whose pages weren't written is still there
pub chain-still : (old new : ℕ → Option (List ℕ)) (head : ℕ) (left : List ℕ) → ((n : ℕ) → 0 < times_free n left → new n ≡ old n) → IsChain old head left → IsChain new head left
chain-still old new head [] same h = h
chain-still old new head (p ∷ ps) same (is, some, next, free, rest) =
    let self : times_free p (p ∷ ps) ≡ 1 + times_free p ps = ap (λ (t : Bool). cond t 1 0 + times_free p ps) (eq-eqb p p refl) in
    (is, some, next, record { body = free.body; there = same p (omega (arith, self)) ∙ free.there; size = free.size; kind = free.kind; next_is = free.next_is }, chain-still old new next ps (λ n h. same n (omega (arith, h))) rest)

-- nothing was taken yet
pub taken-none : (before : ℕ) (chain : List ℕ) → AreTaken before before chain [] chain
taken-none before chain = record {
  grows = omega arith;
  times = λ n. elim (cases_lt n before) as (λ _. 0 + times_free n chain ≡ times_free n chain + span before before n) [
    | inl lt ↦ omega (arith, span-under before before n lt)
    | inr ge ↦ omega (arith, span-over before before n (omega (arith, ge)))
  ];
}

-- no page is in the tree, taken and left more than once
pub all-once : (before count : ℕ) (levels : List (List Placed)) (chain taken left : List ℕ) → AreApart before levels chain → AreTaken before count chain taken left → (n : ℕ) → times_in n levels + times_free n taken + times_free n left ≤ 1
all-once before count levels chain taken left apart are n = elim (cases_lt n before) as (λ _. times_in n levels + times_free n taken + times_free n left ≤ 1) [
  | inl lt ↦ omega (arith, are.times n, apart.once n, span-under before count n lt)
  | inr ge ↦ omega (arith, are.times n, apart.low n (omega (arith, ge)), span-most before count n)
]

-- nor is one from behind the end
pub all-low : (before count : ℕ) (levels : List (List Placed)) (chain taken left : List ℕ) → AreApart before levels chain → AreTaken before count chain taken left → (n : ℕ) → count ≤ n → times_in n levels + times_free n taken + times_free n left ≡ 0
all-low before count levels chain taken left apart are n h = omega (arith, are.times n, are.grows, apart.low n (omega (arith, are.grows, h)), span-over before count n h)

-- nor the header
pub all-some : (before count : ℕ) (levels : List (List Placed)) (chain taken left : List ℕ) → AreApart before levels chain → AreTaken before count chain taken left → times_in 0 levels + times_free 0 taken + times_free 0 left ≡ 0
all-some before count levels chain taken left apart are = omega (arith, are.times 0, apart.header, span-under before count 0 apart.some)

-- a page that is left is one of the file
pub left-low : (before count : ℕ) (levels : List (List Placed)) (chain taken left : List ℕ) → AreApart before levels chain → AreTaken before count chain taken left → (n : ℕ) → 0 < times_free n left → n < count
left-low before count levels chain taken left apart are n h = elim (cases_lt n count) as (λ _. n < count) [
  | inl lt ↦ lt
  | inr ge ↦ absurd (omega (arith, h, all-low before count levels chain taken left apart are n (omega (arith, ge))))
]

-- a page was taken, and those are left
pub record TookOne (bodies : ℕ → Option (List ℕ)) (before more : ℕ) (levels : List (List Placed)) (chain taken left : List ℕ) (page next : ℕ) : Type 0 where
  pub rest : List ℕ
  pub chain_is : IsChain bodies next rest
  pub are : AreTaken before more chain (page ∷ taken) rest
  pub fewer : (n : ℕ) → times_free n rest ≤ times_free n left
  pub unused : times_in page levels + times_free page taken ≡ 0
  pub low : page < more

pub took-one : (bodies : ℕ → Option (List ℕ)) (before count more : ℕ) (levels : List (List Placed)) (chain taken left : List ℕ) (page next : ℕ) → AreApart before levels chain → AreTaken before count chain taken left → IsTaken bodies count left page next → more ≡ max count (page + 1)
    → TookOne bodies before more levels chain taken left page next
took-one bodies before count more levels chain taken [] page next apart are is e =
    let whole : more ≡ count + 1 = omega (arith, e, is.0) in
    record {
      rest = [];
      chain_is = is.1;
      are = record {
        grows = omega (arith, whole, are.grows);
        times = λ n.
            let now : span before more n ≡ span before (count + 1) n = ap (λ (m : ℕ). span before m n) whole in
            let one : flag (n == page) ≡ flag (n == count) = ap (λ (m : ℕ). flag (n == m)) is.0 in
            omega (arith, are.times n, now, one, span-more before count n are.grows);
      };
      fewer = λ n. omega arith;
      unused = omega (arith, all-low before count levels chain taken [] apart are page (omega (arith, is.0)));
      low = omega (arith, whole, is.0);
    }
took-one bodies before count more levels chain taken (p ∷ ps) page next apart are is e =
    let self : times_free page (p ∷ ps) ≡ 1 + times_free page ps = ap (λ (t : Bool). cond t 1 0 + times_free page ps) (eq-eqb page p is.0) in
    let once = all-once before count levels chain taken (p ∷ ps) apart are page in
    let under : page < count = elim (cases_lt page count) as (λ _. page < count) [
      | inl lt ↦ lt
      | inr ge ↦ absurd (omega (arith, self, all-low before count levels chain taken (p ∷ ps) apart are page (omega (arith, ge))))
    ] in
    let whole : more ≡ count = omega (arith, e, under) in
    record {
      rest = ps;
      chain_is = is.1;
      are = record {
        grows = omega (arith, whole, are.grows);
        times = λ n.
            let now : span before more n ≡ span before count n = ap (λ (m : ℕ). span before m n) whole in
            let one : flag (n == page) ≡ flag (n == p) = ap (λ (m : ℕ). flag (n == m)) is.0 in
            omega (arith, are.times n, now, one);
      };
      fewer = λ n. omega arith;
      unused = omega (arith, self, once);
      low = omega (arith, whole, under);
    }

-- what holds of each page of a list
pub all-times : (P : ℕ → Type 0) (xs : List ℕ) → ((n : ℕ) → 0 < times_free n xs → P n) → AllByRecursion P xs
all-times P [] h = tt
all-times P (x ∷ xs) h =
    let self : times_free x (x ∷ xs) ≡ 1 + times_free x xs = ap (λ (t : Bool). cond t 1 0 + times_free x xs) (eq-eqb x x refl) in
    (h x (omega (arith, self)), all-times P xs (λ n k. h n (omega (arith, k))))
