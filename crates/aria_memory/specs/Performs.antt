-- A statement on tables in memory.
use Rattle.std.specs.Prelude.{◌≡◌, ℕ, Bool, true, false, List, ◌++◌, Option, Some}
use Rattle.std.specs.List.{flat_map}
use Rattle.aria_model.specs.declared.refusal.Exception.{Exception}
use Rattle.aria_model.specs.declared.reply.Reply.{Reply}
use Rattle.aria_model.specs.declared.statement.Statement.{Statement}
use Rattle.aria_model.specs.declared.statement.Statement.TheVariants.{Create, Insert, Delete, Update, Select, Drop, Flush, Checkpoint}
use Rattle.aria_model.specs.World.{World, Table, with_table}
use Rattle.aria_model.specs.Step.{Outcome, perform}
use Rattle.aria_model.specs.Text.{row_text}

-- the statement, which met the exception if there is one, leaves the new world, adds the lines of its rows to the text, and has this reply
pub record Performs (old : World) (statement : Statement) (exception : Option Exception) (new : World) (before text : List ℕ) (answer : Reply) : Type 0 where
  pub world : new ≡ (perform old statement exception).world
  pub rows : text ≡ before ++ flat_map row_text (perform old statement exception).rows
  pub reply : answer ≡ (perform old statement exception).reply

-- the new world and the reply are the outcome's
pub record Leaves (outcome : Outcome) (new : World) (answer : Reply) : Type 0 where
  pub world : new ≡ outcome.world
  pub reply : answer ≡ outcome.reply

-- whatever world has the old table under whatever name, what is done with the table of that name leaves the new one there, and has this reply
abbrev pub ActsOn : (World → List ℕ → Outcome) → Table → Table → Reply → Type 0
ActsOn does old new answer = (world : World) (name : List ℕ) → world name ≡ Some old → Leaves (does world name) (with_table world name (Some new)) answer

-- the statement is an update
abbrev pub is_update : Statement → Bool
is_update (Create name plain definition) = false
is_update (Insert name rows) = false
is_update (Delete name key sought) = false
is_update (Update name key sought settings) = true
is_update (Select name key sought) = false
is_update (Drop name) = false
is_update (Flush name) = false
is_update Checkpoint = false
