-- Statements that are counted, and the exceptions that they met.
use Rattle.std.proofs.Common.{ℕ, ◌+◌, IsTrue, nat_lt, List, [], ◌∷◌, arith}
use Rattle.std.specs.List.{list_all}
use Rattle.std.proofs.lemmas.Bool.Decides.{nat_tests}
use Rattle.aria_model.specs.declared.refusal.Met.{Met}

-- entries stay below a count that rises
pub numbered_later : (n : ℕ) (met : List Met) → IsTrue (list_all (λ m. nat_lt m.nth n) met) → IsTrue (list_all (λ m. nat_lt m.nth (n + 1)) met)
numbered_later n [] is = is
numbered_later n (m ∷ met) is = grind (arith, nat_tests, numbered_later n met)
