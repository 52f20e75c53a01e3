-- Whole scripts: their lines and statements, what they leave and what they tell.
use Rattle.std.specs.Prelude.{◌≡◌, ◌⊎◌, ℕ, suc, Bool, false, true, not, ◌&&◌, ◌||◌, ◌==◌, if◌then◌else◌, List, [], ◌∷◌, ◌++◌, take, filter, count_by, Option, None}
use Rattle.std.specs.List.{flat_map, list_any}
use Rattle.aria_model.specs.declared.refusal.Exception.{Exception}
use Rattle.aria_model.specs.declared.reply.Reply.{Reply}
use Rattle.aria_model.specs.declared.reply.Reply.TheVariants.{Done, Count, No}
use Rattle.aria_model.specs.World.{World}
use Rattle.aria_model.specs.Grammar.{is_blank_line}
use Rattle.aria_model.specs.Step.{Outcome, step}
use Rattle.aria_model.specs.Text.{row_text, reply_text}

-- a byte joins the line behind it
abbrev pub onto_line : ℕ → List (List ℕ) → List (List ℕ)
onto_line b [] = (b ∷ []) ∷ []
onto_line b (line ∷ lines) = (b ∷ line) ∷ lines

-- the lines of bytes: LF ends each, and a last piece without LF is one if it isn't empty
abbrev pub lines_of : List ℕ → List (List ℕ)
lines_of [] = []
lines_of (b ∷ bs) = if b == 10 then [] ∷ lines_of bs else onto_line b (lines_of bs)

abbrev pub onto_ended : ℕ → List (List ℕ) → List (List ℕ)
onto_ended b [] = []
onto_ended b (line ∷ lines) = (b ∷ line) ∷ lines

-- the lines that are ended by LF
abbrev pub ended_lines : List ℕ → List (List ℕ)
ended_lines [] = []
ended_lines (b ∷ bs) = if b == 10 then [] ∷ ended_lines bs else onto_ended b (ended_lines bs)

-- the statements of a script, refused ones included: its lines that aren't blank
abbrev pub statements : List (List ℕ) → List (List ℕ)
statements lines = filter (λ line. not (is_blank_line line)) lines

-- the exception of each statement that met one, by its number from 0
abbrev pub Exceptions : Type 0
Exceptions = ℕ → Option Exception

-- no statement met one
abbrev pub no_exception : Exceptions
no_exception = λ nth. None

-- the outcomes of statements, one after another
abbrev pub outcomes : World → List (List ℕ) → Exceptions → List Outcome
outcomes world [] exceptions = []
outcomes world (line ∷ lines) exceptions = let outcome = step world line (exceptions 0) in
    outcome ∷ outcomes outcome.world lines (λ nth. exceptions (suc nth))

-- the tables after statements
abbrev pub world_after : World → List (List ℕ) → Exceptions → World
world_after world [] exceptions = world
world_after world (line ∷ lines) exceptions = world_after (step world line (exceptions 0)).world lines (λ nth. exceptions (suc nth))

-- the tables after the first k statements of a script
abbrev pub after : World → List (List ℕ) → Exceptions → ℕ → World
after world lines exceptions k = world_after world (take k (statements lines)) exceptions

-- what a statement tells: its rows and its reply
abbrev pub outcome_text : Outcome → List ℕ
outcome_text outcome = flat_map row_text outcome.rows ++ reply_text outcome.reply

-- what a script tells
abbrev pub told : World → List (List ℕ) → Exceptions → List ℕ
told world lines exceptions = flat_map outcome_text (outcomes world (statements lines) exceptions)

-- what the first k statements of a script tell
abbrev pub told_first : World → List (List ℕ) → Exceptions → ℕ → List ℕ
told_first world lines exceptions k = flat_map outcome_text (outcomes world (take k (statements lines)) exceptions)

abbrev pub is_refused : Reply → Bool
is_refused Done = false
is_refused (Count n) = false
is_refused (No why) = true

-- a reply of the script is a refusal
abbrev pub any_refused : World → List (List ℕ) → Exceptions → Bool
any_refused world lines exceptions = list_any (λ outcome. is_refused outcome.reply) (outcomes world (statements lines) exceptions)

-- nothing, or bytes whose last is LF
abbrev pub EndsLine : List ℕ → Type 0
EndsLine bytes = (bytes ≡ []) ⊎ ((front : List ℕ) × (bytes ≡ front ++ 10 ∷ []))

-- ok or no
abbrev pub begins_reply : List ℕ → Bool
begins_reply (a ∷ b ∷ rest) = ((a == 111) && (b == 107)) || ((a == 110) && (b == 111))
begins_reply rest = false

-- how many statements are acknowledged: the whole lines told that are replies
abbrev pub acknowledged : List ℕ → ℕ
acknowledged bytes = count_by begins_reply (ended_lines bytes)
