-- A host that tells nothing but its counts of faults.
use Rattle.std.specs.Prelude.{ℕ, false, IsTrue, [], None}
use Rattle.aria_host.specs.State.{State}

-- these counts, and a clock that stands
abbrev pub untold : ℕ → ℕ → State
untold disk tell = record {
  folder = λ _. None;
  may_leave = λ _. ⊥;
  out = [];
  err = [];
  moment = 0;
  since = λ _ _ _. ⊥;
  disk_faults = disk;
  tell_faults = tell;
}

-- nothing is asked of it
pub not_told : {A : Type 0} → IsTrue false → A
not_told told = absurd (cc)
