-- What is answered where a statement may be refused, or memory may run out.
use Rattle.std.specs.Prelude.{Option, Some, None, Result, Ok, Err, ⊤}
use Rattle.std.specs.declared.alloc.AllocError.{AllocError}
use Rattle.aria_model.specs.declared.refusal.Refusal.{Refusal}
use Rattle.aria_model.specs.declared.reply.Reply.{Reply}
use Rattle.aria_model.specs.declared.reply.Reply.TheVariants.{No}
use Rattle.aria_model.specs.declared.stopped.Stopped.{Stopped}
use Rattle.aria_model.specs.declared.stopped.Stopped.TheVariants.{Refused, Memory}

-- the refusal, if it is one
abbrev pub refusal_of : {A : Type 0} → Result A Refusal → Option Refusal
refusal_of (Ok done) = None
refusal_of (Err why) = Some why

-- the same, unless memory ran out
abbrev pub EndsBy : {A : Type 0} → Result A Stopped → (Option Refusal → Type 0) → Type 0
EndsBy (Ok done) P = P None
EndsBy (Err (Refused why)) P = P (Some why)
EndsBy (Err Memory) P = ⊤

-- if it is a refusal
abbrev pub IfRefused : Stopped → (Refusal → Type 0) → Type 0
IfRefused (Refused why) P = P why
IfRefused Memory P = ⊤

-- the reply to a statement, which a refusal is too
abbrev pub replied : Result Reply Stopped → Result Reply AllocError
replied (Ok reply) = Ok reply
replied (Err (Refused why)) = Ok (No why)
replied (Err Memory) = Err (record {})

-- the reply is such a one, unless memory ran out
abbrev pub Replies : Result Reply Stopped → (Reply → Type 0) → Type 0
Replies (Ok reply) P = P reply
Replies (Err (Refused why)) P = P (No why)
Replies (Err Memory) P = ⊤
