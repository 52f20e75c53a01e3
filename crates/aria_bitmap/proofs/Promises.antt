-- What a promise is worth.
use Rattle.std.proofs.Common.{◌≡◌, ℕ, ◌≤◌, ◌⊎◌, true, false, List, arith}
use Rattle.std.specs.Prelude.{IsTrue, slice_index}
use Rattle.std.proofs.lemmas.Bool.Decides.{nat_tests}
use Rattle.aria_bitmap.specs.Code.{room, code}
use Rattle.aria_bitmap.specs.Promise.{promises}

-- a page whose code promises a head is free, or a head page with room for it
pub head_promised : (body : List ℕ) (bytes : ℕ) → IsTrue (promises false bytes (code body))
    → (slice_index body 0 ≡ 0) ⊎ ((slice_index body 0 ≡ 3) × (bytes ≤ room body))
unfolding promises code
head_promised body bytes promised = grind (arith, nat_tests)

-- a page whose code promises a tail is free, or a tail page with room for it
pub tail_promised : (body : List ℕ) (bytes : ℕ) → IsTrue (promises true bytes (code body))
    → (slice_index body 0 ≡ 0) ⊎ ((slice_index body 0 ≡ 4) × (bytes ≤ room body))
unfolding promises code
tail_promised body bytes promised = grind (arith, nat_tests)
