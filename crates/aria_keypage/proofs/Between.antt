-- An entry that stands between two others.
use Rattle.std.proofs.Common.{◌≡◌, ℕ, zero, suc, ◌<◌, ◌≤◌, true, List, [], ◌∷◌, arith}
use Rattle.std.proofs.lemmas.Bool.Decides.{nat_tests}
use Rattle.aria_keypage.specs.Item.{Item, entry_before, is_below}
use Rattle.aria_keypage.specs.Packed.{common_length, shared}
use Rattle.aria_keypage.proofs.Fitting.{shared-nil}

-- it has in common with the first all that the two have in common
pub common-between : (a x b : List ℕ) → is_below a x ≡ true → is_below x b ≡ true → common_length a b ≤ common_length a x
common-between [] x b h k = omega arith
common-between (p ∷ a) [] b h k = absurd cc
common-between (p ∷ a) (q ∷ x) [] h k = absurd cc
common-between (p ∷ a) (q ∷ x) (r ∷ b) h k = grind (arith, nat_tests, common-between a x b)

-- and takes as many bytes from it as the second would
pub shared-between : (a x b : List ℕ) → is_below a x ≡ true → is_below x b ≡ true → shared a b ≤ shared a x
unfolding shared
shared-between a x b h k = omega (arith, common-between a x b h k)

-- so does an entry at a position, where the one before it is below it, and it is below another
pub shared-at : (items : List Item) (at : ℕ) (x b : List ℕ) → (0 < at → is_below (entry_before items at) x ≡ true) → is_below x b ≡ true → shared (entry_before items at) b ≤ shared (entry_before items at) x
shared-at items zero x b h k = omega (arith, shared-nil b)
shared-at items (suc n) x b h k = shared-between (entry_before items (suc n)) x b (h (omega arith)) k
