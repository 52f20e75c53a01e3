-- Facts that hold once a call is done.
use Rattle.std.specs.Prelude.{Result, Ok, Err, IsTrue, OnOk, is_ok, refl}
use Rattle.std.proofs.Common.{rules}

-- what holds once a call is done holds where it answers Ok
pub on_ok : {T E : Type 0} (r : Result T E) (P : Type 0) → (IsTrue (is_ok r) → P) → OnOk r P
on_ok (Ok x) P h = h refl
on_ok (Err e) P h = search rules

-- the other way round
pub on_ok_of : {T E : Type 0} (r : Result T E) (P : Type 0) → OnOk r P → IsTrue (is_ok r) → P
on_ok_of (Ok x) P h done = h
on_ok_of (Err e) P h done = absurd (cc)
