-- What holds of an option, carried on.
use Rattle.std.specs.Prelude.{Option, Some, None, IfSome, IfNone, IfOk, Result, Ok, Err}

-- what holds of the value of an option
pub some-map : {A : Type 0} (r : Option A) (P Q : A → Type 0) → ((x : A) → P x → Q x) → IfSome r P → IfSome r Q
some-map (Some x) P Q f h = f x h
some-map None P Q f h = h

-- what holds where there is none
pub none-map : {A : Type 0} (r : Option A) (P Q : Type 0) → (P → Q) → IfNone r P → IfNone r Q
none-map (Some x) P Q f h = h
none-map None P Q f h = f h

-- what holds anyway holds where there is none
pub none-any : {A : Type 0} (r : Option A) (Q : Type 0) → Q → IfNone r Q
none-any (Some x) Q h = tt
none-any None Q h = h

-- what holds of a result that is Ok
pub ok-map : {A E : Type 0} (r : Result A E) (P Q : A → Type 0) → ((x : A) → P x → Q x) → IfOk r P → IfOk r Q
ok-map (Ok x) P Q f h = f x h
ok-map (Err e) P Q f h = h
