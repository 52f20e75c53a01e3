-- What a reader of the code answers, beside what a line spells.
use Rattle.std.specs.Prelude.{◌≡◌, ℕ, Bool, false, ◌==◌, List, ◌∷◌, Option, Some, None, Result, Ok, Err}
use Rattle.aria_model.specs.declared.refusal.Refusal.{Refusal}
use Rattle.aria_model.specs.Token.{Token, Sign}
use Rattle.aria_model.specs.declared.stopped.Stopped.{Stopped}
use Rattle.aria_model.specs.declared.stopped.Stopped.TheVariants.{Memory, Refused}
use Rattle.aria_statement.specs.Lexing.{left}

-- the fault is the refusal that was read, or want of memory
abbrev pub IsFaultOf : {A : Type 0} → Stopped → Result A Refusal → Type 0
IsFaultOf Memory read = Unit {0}
IsFaultOf (Refused why) read = read ≡ Err why

-- the answer is what was read, unless memory ran out
abbrev pub Reads : {A : Type 0} → Result A Stopped → Result A Refusal → Type 0
Reads (Ok found) read = read ≡ Ok found
Reads (Err fault) read = IsFaultOf fault read

-- the same for an answer that is seen in another form
abbrev pub Gives : {A B : Type 0} → (A → B) → Result A Stopped → Result B Refusal → Type 0
Gives view (Ok found) read = read ≡ Ok (view found)
Gives view (Err fault) read = IsFaultOf fault read

-- what was read, seen in another form
abbrev pub seen_as : {A B : Type 0} → (A → B) → Result A Refusal → Result B Refusal
seen_as view (Ok found) = Ok (view found)
seen_as view (Err why) = Err why

-- what is left of a line, if anything goes on there
abbrev pub left_if : List ℕ → Option ℕ → Option (List (ℕ × Token))
left_if line None = None
left_if line (Some at) = Some (left line at)

-- a colon comes first
abbrev pub begins_colon : List (ℕ × Token) → Bool
begins_colon ((at, Sign found) ∷ ts) = found == 58
begins_colon ts = false
