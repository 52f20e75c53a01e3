-- Free pages one after another, looked for.
use Rattle.std.proofs.Common.{◌≡◌, ℕ, ◌+◌, ◌%◌, ◌<◌, ◌≤◌, Option, Some, None, List, refl, sym, arith, subst, inl, inr}
use Rattle.std.specs.Prelude.{IfSome}
use Rattle.std.proofs.lemmas.Bool.{cases_eq}
use Rattle.aria_bitmap.specs.Promise.{IsFreeRun, IsLowest}
use Rattle.aria_block.specs.DataFile.{map_of, nth_of}
use Rattle.aria_block.specs.Runs.{FindsRunUnder, NoRunBefore, FindsRun, IsUnderOne}

nth_at : (at nth : ℕ) → at % 21809 ≡ 0 → nth < 21808 → nth_of (at + 1 + nth) ≡ nth
nth_at at nth even low = omega (arith, even, low)

-- the lowest pages that the bitmap page promises
pub run_under : (map : List ℕ) (n count at nth : ℕ) → at % 21809 ≡ 0 → IsLowest (λ m. IsFreeRun map n m) 21808 (Some nth) → at + 1 + nth + n ≤ count → FindsRunUnder n count at map (Some (at + 1 + nth))
run_under map n count at nth even (low, is, lowest) inside =
    (omega (arith, even, low), omega (arith, even, low), inside, subst (IsFreeRun map n) (sym (nth_at at nth even low)) is)

pub no_run_under : (map : List ℕ) (n count at : ℕ) → IsLowest (λ m. IsFreeRun map n m) 21808 None → FindsRunUnder n count at map None
no_run_under map n count at none = λ page plain same inside is. none (nth_of page) (omega (arith, plain)) is

pub no_run_behind : (map : List ℕ) (n count at nth : ℕ) → at % 21809 ≡ 0 → IsLowest (λ m. IsFreeRun map n m) 21808 (Some nth) → count < at + 1 + nth + n → FindsRunUnder n count at map None
no_run_behind map n count at nth even (low, is, lowest) past = λ page plain same inside run. lowest (nth_of page) (omega (arith, plain, same, inside, past)) run

pub under_one : (map : List ℕ) (n at nth : ℕ) → at % 21809 ≡ 0 → IsLowest (λ m. IsFreeRun map n m) 21808 (Some nth) → IsUnderOne n (at + 1 + nth)
under_one map n at nth even (low, is, lowest) = record { plain = omega (arith, even, low); within = let in_map = is.within in omega (arith, even, low, in_map) }

-- no such pages are promised before the next bitmap page
pub no_run_next : (n count at : ℕ) (bodies : ℕ → Option (List ℕ)) → at % 21809 ≡ 0 → NoRunBefore n count bodies at
    → ((map : List ℕ) → bodies at ≡ Some map → FindsRunUnder n count at map None) → NoRunBefore n count bodies (at + 21809)
no_run_next n count at bodies even before here page plain low inside map is run = elim (cases_eq (map_of page) at) [
  | inl same ↦ here map (subst (λ (k : ℕ). bodies k ≡ Some map) same is) page plain same inside run
  | inr other ↦ before page plain (omega (arith, even, low, other)) inside map is run
]

-- the answer of the last bitmap page that was asked
pub found_run : (n count at : ℕ) (bodies : ℕ → Option (List ℕ)) (o : Option ℕ) → at % 21809 ≡ 0 → NoRunBefore n count bodies at
    → ((map : List ℕ) → bodies at ≡ Some map → FindsRunUnder n count at map o) → IfSome o (λ page. map_of page ≡ at) → (o ≡ None → count ≤ at + 21809) → FindsRun n count bodies o
found_run n count at bodies (Some page) even before here same last = λ map is. (here map (subst (λ (k : ℕ). bodies k ≡ Some map) same is)).3
found_run n count at bodies None even before here same last = λ page plain low inside map is run.
    no_run_next n count at bodies even before here page plain (omega (arith, low, last refl)) inside map is run
