-- What is answered where a statement may be refused, or memory may run out.
use Rattle.std.specs.Prelude.{◌≡◌, ℕ, Bool, true, false, List, Option, Some, None, Result, Ok, Err, IfOk, OnErr, refl}
use Rattle.aria_model.specs.declared.refusal.Refusal.{Refusal}
use Rattle.aria_model.specs.declared.reply.Reply.{Reply}
use Rattle.aria_model.specs.declared.reply.Reply.TheVariants.{No}
use Rattle.aria_model.specs.declared.stopped.Stopped.{Stopped}
use Rattle.aria_model.specs.declared.stopped.Stopped.TheVariants.{Refused, Memory}
use Rattle.std.specs.Option.{option_map}
use Rattle.aria_model.specs.declared.refusal.Exception.TheVariants.{Spent}
use Rattle.aria_model.specs.Step.{bad_value, refused_where, spent}
use Rattle.aria_memory.specs.Stopping.{EndsBy, IfRefused, replied, Replies}

-- a reply has what each such reply has
pub replies_weaker : (answer : Result Reply Stopped) (P Q : Reply → Type 0) → ((reply : Reply) → P reply → Q reply) → Replies answer P → Replies answer Q
replies_weaker (Ok reply) P Q weaker has = weaker reply has
replies_weaker (Err (Refused why)) P Q weaker has = weaker (No why) has
replies_weaker (Err Memory) P Q weaker has = tt

-- the reply of a part that was refused
pub ends_replies : (P : Option Refusal → Type 0) (Q : Reply → Type 0) → ((why : Refusal) → P (Some why) → Q (No why)) → (stopped : Stopped)
    → EndsBy {A = Unit {0}} (Err stopped) P → Replies (Err stopped) Q
ends_replies P Q refuses (Refused why) has = refuses why has
ends_replies P Q refuses Memory has = tt

pub refused_replies : (P : Refusal → Type 0) (Q : Reply → Type 0) → ((why : Refusal) → P why → Q (No why)) → (stopped : Stopped) → IfRefused stopped P → Replies (Err stopped) Q
refused_replies P Q refuses (Refused why) has = refuses why has
refused_replies P Q refuses Memory has = tt

-- a reply that is handed out
pub replied_has : (answer : Result Reply Stopped) (P : Reply → Type 0) → Replies answer P → IfOk (replied answer) P
replied_has (Ok reply) P has = has
replied_has (Err (Refused why)) P has = has
replied_has (Err Memory) P has = tt

-- what holds wherever a statement came to nothing, holds for want of memory
pub replied_err : (F : Type 0) (answer : Result Reply Stopped) → OnErr answer F → OnErr (replied answer) F
replied_err F (Ok reply) fact = tt
replied_err F (Err (Refused why)) fact = tt
replied_err F (Err Memory) fact = fact

-- a column that is refused by nothing isn't there
pub no_column_bad : (bad : Option (List ℕ)) → None ≡ bad_value bad → bad ≡ None
no_column_bad None fits = refl
no_column_bad (Some column) fits = absurd (cc)

-- a test that is passed, and one that isn't
pub passes : (fails : Bool) (why : Refusal) → None ≡ refused_where fails why → fails ≡ false
passes true why passed = absurd (cc)
passes false why passed = refl

pub stops : (fails : Bool) (why found : Refusal) → Some found ≡ refused_where fails why → (fails ≡ true) × (why ≡ found)
stops true why found failed = (refl, cc)
stops false why found failed = absurd (cc)

-- a log with room makes no exception
pub no_exception : (file : Option ℕ) → None ≡ spent (option_map Spent file) → option_map Spent file ≡ None
no_exception None room = refl
no_exception (Some file) room = absurd (cc)
