-- Log sequence numbers of places: they rise as the places do.
use Rattle.std.proofs.Common.{◌≡◌, ℕ, ◌+◌, ◌-◌, ◌*◌, ◌/◌, ◌%◌, ◌^◌, ◌<◌, ◌≤◌, subst, arith, inl, inr}
use Rattle.std.proofs.lemmas.Bool.{cases_lt}
use Rattle.aria_recovery.specs.Redo.{number_at}

-- a later byte of the same page of the log, and one of a later page
same_page : (n b c : ℕ) → b < c → n / 1024 * 4294967296 + (8192 * (n % 1024) + 16 + b) < n / 1024 * 4294967296 + (8192 * (n % 1024) + 16 + c)
same_page n b c low = omega (arith, low)

later_page : (n m b c : ℕ) → n < m → b < 8176 → c < 8176 → n / 1024 * 4294967296 + (8192 * (n % 1024) + 16 + b) < m / 1024 * 4294967296 + (8192 * (m % 1024) + 16 + c)
later_page n m b c low first second = omega (arith, low, first, second)

pub number_rises : (a b : ℕ) → a < b → number_at a < number_at b
number_rises a b low = elim (cases_lt (a / 8176) (b / 8176)) [
  | inl less ↦ later_page (a / 8176) (b / 8176) (a % 8176) (b % 8176) less (omega arith) (omega arith)
  | inr same ↦
      let is : a / 8176 ≡ b / 8176 = omega (arith, low, same) in
      let less : a % 8176 < b % 8176 = omega (arith, low, is) in
      subst (λ (n : ℕ). number_at a < n / 1024 * 4294967296 + (8192 * (n % 1024) + 16 + b % 8176)) is (same_page (a / 8176) (a % 8176) (b % 8176) less)
]

pub number_rises_not : (a b : ℕ) → a ≤ b → number_at a ≤ number_at b
number_rises_not a b low = elim (cases_lt a b) [
  | inl less ↦ let more = number_rises a b less in omega (arith, more)
  | inr same ↦ let is : a ≡ b = omega (arith, low, same) in subst (λ (k : ℕ). number_at a ≤ number_at k) is (omega arith)
]

-- the log's pages are fewer than 2^34: each log sequence number can be stored
pub number_fits : (place : ℕ) → place ≤ 8176 * (2 ^ 34 - 1) → number_at place < 2 ^ 56
number_fits place low = omega (arith, low)
