-- Pages that went into a tree and out of it: none is in the tree and free, or twice in one of the two.
use Rattle.std.proofs.Common.{◌≡◌, ℕ, ◌+◌, ◌<◌, ◌≤◌, List, arith, inl, inr}
use Rattle.std.proofs.lemmas.Bool.{cases_lt}
use Rattle.aria_key.specs.Tree.{Placed}
use Rattle.aria_key.specs.Owned.{times_in}
use Rattle.aria_key.specs.IndexFile.{times_free}
use Rattle.aria_key.specs.Taking.{AreApart}
use Rattle.aria_key.specs.Thinning.{AreMoved}
use Rattle.aria_key.proofs.Spare.{span, span-most, span-under, span-over}

pub moved_once : (before count : ℕ) (levels : List (List Placed)) (chain : List ℕ) (now : ℕ → ℕ) (left : List ℕ) → AreApart before levels chain → AreMoved before count levels chain now left → (m : ℕ) → now m + times_free m left ≤ 1
moved_once before count levels chain now left apart are m = elim (cases_lt m before) as (λ _. now m + times_free m left ≤ 1) [
  | inl lt ↦ omega (arith, are.times m, apart.once m, span-under before count m lt)
  | inr ge ↦ omega (arith, are.times m, apart.low m (omega (arith, ge)), span-most before count m)
]

-- none is behind the end
pub moved_low : (before count : ℕ) (levels : List (List Placed)) (chain : List ℕ) (now : ℕ → ℕ) (left : List ℕ) → AreApart before levels chain → AreMoved before count levels chain now left → (m : ℕ) → count ≤ m → now m + times_free m left ≡ 0
moved_low before count levels chain now left apart are m h = omega (arith, are.times m, are.grows, apart.low m (omega (arith, are.grows, h)), span-over before count m h)

-- nor is the header one
pub moved_header : (before count : ℕ) (levels : List (List Placed)) (chain : List ℕ) (now : ℕ → ℕ) (left : List ℕ) → AreApart before levels chain → AreMoved before count levels chain now left → now 0 + times_free 0 left ≡ 0
moved_header before count levels chain now left apart are = omega (arith, are.times 0, apart.header, span-under before count 0 apart.some)

-- a page that is free is one of the file
pub moved_left : (before count : ℕ) (levels : List (List Placed)) (chain : List ℕ) (now : ℕ → ℕ) (left : List ℕ) → AreApart before levels chain → AreMoved before count levels chain now left → (m : ℕ) → 0 < times_free m left → m < count
moved_left before count levels chain now left apart are m h = elim (cases_lt m count) as (λ _. m < count) [
  | inl lt ↦ lt
  | inr ge ↦ absurd (omega (arith, h, moved_low before count levels chain now left apart are m (omega (arith, ge))))
]

-- and the tree is apart from the free pages, as it was
pub moved_apart : (before count : ℕ) (levels grown : List (List Placed)) (chain left : List ℕ) → AreApart before levels chain → AreMoved before count levels chain (λ m. times_in m grown) left → AreApart count grown left
moved_apart before count levels grown chain left apart are = record {
  some = omega (arith, apart.some, are.grows);
  once = λ m. moved_once before count levels chain (λ m. times_in m grown) left apart are m;
  low = λ m h. moved_low before count levels chain (λ m. times_in m grown) left apart are m h;
  header = moved_header before count levels chain (λ m. times_in m grown) left apart are;
}

-- nothing went yet
pub moved_none : (before : ℕ) (levels : List (List Placed)) (chain : List ℕ) → AreMoved before before levels chain (λ m. times_in m levels) chain
moved_none before levels chain = record {
  grows = omega arith;
  times = λ m. elim (cases_lt m before) as (λ _. times_in m levels + times_free m chain ≡ times_in m levels + times_free m chain + span before before m) [
    | inl lt ↦ omega (arith, span-under before before m lt)
    | inr ge ↦ omega (arith, span-over before before m (omega (arith, ge)))
  ];
}

-- the same, where the tree is told in another way
pub moved_as : (before count : ℕ) (levels : List (List Placed)) (chain : List ℕ) (now also : ℕ → ℕ) (left : List ℕ) → ((m : ℕ) → also m ≡ now m) → AreMoved before count levels chain now left → AreMoved before count levels chain also left
moved_as before count levels chain now also left same are = record { grows = are.grows; times = λ m. omega (arith, same m, are.times m) }
