-- Which lines change the tables, and what is left of such lines when they are executed anew.
use Rattle.std.specs.Prelude.{ℕ, Bool, false, not, ◌==◌, if◌then◌else◌, List, [], ◌∷◌, Option, Some, None, Result, Ok, Err}
use Rattle.aria_model.specs.declared.refusal.Refusal.{Refusal}
use Rattle.aria_model.specs.declared.refusal.Exception.{Exception}
use Rattle.aria_model.specs.declared.refusal.Met.{Met}
use Rattle.aria_model.specs.declared.reply.Reply.{Reply}
use Rattle.aria_model.specs.declared.reply.Reply.TheVariants.{Done, Count, No}
use Rattle.aria_model.specs.declared.statement.Statement.{Statement}
use Rattle.aria_model.specs.declared.statement.Statement.TheVariants.{Create, Insert, Delete, Update, Select, Drop, Flush, Checkpoint}
use Rattle.aria_model.specs.Grammar.{read_line}
use Rattle.aria_model.specs.World.{World}
use Rattle.aria_model.specs.Step.{option_suc, perform, step}
use Rattle.aria_model.specs.Script.{is_refused}

-- rows were concerned
abbrev pub concerns_some : Reply → Bool
concerns_some Done = false
concerns_some (Count n) = not (n == 0)
concerns_some (No why) = false

-- A statement with this reply changed the tables: it is of a kind that changes them, was accepted, and a delete or an
-- update concerned a row.
abbrev pub changes : Statement → Reply → Bool
changes (Create name plain definition) reply = not (is_refused reply)
changes (Insert name rows) reply = not (is_refused reply)
changes (Delete name key sought) reply = concerns_some reply
changes (Update name key sought settings) reply = concerns_some reply
changes (Select name key sought) reply = false
changes (Drop name) reply = not (is_refused reply)
changes (Flush name) reply = false
changes Checkpoint reply = false

-- the same of a line of which this was read
abbrev pub changes_read : World → Result (Option Statement) Refusal → Option Exception → Bool
changes_read world (Ok None) exception = false
changes_read world (Ok (Some statement)) exception = changes statement (perform world statement exception).reply
changes_read world (Err why) exception = false

-- The line changes these tables.
abbrev pub is_change : World → List ℕ → Option Exception → Bool
is_change world line exception = changes_read world (read_line line) exception

-- The first of the lines that doesn't change the tables that those before it left, by its number from 0.
abbrev pub first_no_change : World → List (List ℕ) → Option ℕ
first_no_change world [] = None
first_no_change world (line ∷ lines) =
    if is_change world line None then option_suc (first_no_change (step world line None).world lines) else Some 0

-- the exception of a statement that met one; of two for one number the later counts
abbrev pub met_at : List Met → ℕ → Option Exception
met_at [] nth = None
met_at (met ∷ more) nth = elim (met_at more nth) [
  | Some why ↦ Some why
  | None ↦ if met.nth == nth then Some met.why else None
]
