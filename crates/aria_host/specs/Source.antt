-- What a read of a source does.
use Rattle.std.specs.Prelude.{◌≡◌, ◌↔◌, ℕ, ◌+◌, ◌-◌, ◌^◌, ◌≤◌, min, Bool, IsTrue, List, [], ◌++◌, length, take}
use Rattle.aria_host.specs.declared.fault.Fault.{Fault}
use Rattle.aria_host.specs.declared.fault.Fault.TheVariants.{Input}
use Rattle.aria_host.specs.Count.{Rose}

-- The first n bytes that were left stand in front of the buffer, and are counted. None are taken only at the end.
pub record Takes (tells : Bool) (n : ℕ) (into old new : List ℕ) (taken taken_now : ℕ) : Type 0 where
  pub within : n ≤ length into
  pub counted : taken_now ≡ min (taken + n) (2 ^ 128 - 1)
  pub bytes : IsTrue tells → old ≡ take n into ++ new
  pub end : IsTrue tells → (n ≡ 0) ↔ (old ≡ [])

-- The input failed, and nothing is taken.
pub record TakesNone (fault : Fault) (old new : List ℕ) (taken taken_now faults faults_now : ℕ) : Type 0 where
  pub cause : fault ≡ Input
  pub counted : Rose faults faults_now
  pub bytes : new ≡ old
  pub number : taken_now ≡ taken
