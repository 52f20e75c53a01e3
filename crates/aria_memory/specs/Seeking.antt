-- What a statement does that seeks values by a key.
use Rattle.std.specs.Prelude.{◌≡◌, ℕ, List, [], map, length, Option, Some, None}
use Rattle.aria_value.specs.declared.value.Value.{Value}
use Rattle.aria_value.specs.declared.definition.Definition.{Definition}
use Rattle.aria_value.specs.Order.{key_columns}
use Rattle.aria_model.specs.declared.refusal.Refusal.{Refusal}
use Rattle.aria_model.specs.declared.refusal.Refusal.TheVariants.{NoKey}
use Rattle.aria_model.specs.declared.refusal.Exception.{Exception}
use Rattle.aria_model.specs.declared.reply.Reply.{Reply}
use Rattle.aria_model.specs.declared.reply.Reply.TheVariants.{Count}
use Rattle.aria_model.specs.declared.statement.Statement.TheVariants.{Select}
use Rattle.aria_model.specs.World.{World, Table}
use Rattle.aria_model.specs.Step.{Outcome, bad_value, key_number, bad_sought, concerned, others, with_rows}
use Rattle.aria_memory.specs.Keyed.{values_in}
use Rattle.aria_memory.specs.Performs.{Performs}

-- the refusal of a key's name, or of the values that are sought by the key
abbrev pub seek_refusal : Definition → List ℕ → List Value → Option Refusal
seek_refusal d key sought = elim (key_number d.keys key) [
  | None ↦ Some (NoKey key)
  | Some number ↦ bad_value (bad_sought d.columns [] (key_columns d.keys number) sought)
]

-- the keys of the rows that a statement concerns
abbrev pub concerned_keys : Definition → ℕ → List Value → List (List Value) → List (List Value)
concerned_keys d number sought rows = map (values_in (key_columns d.keys 0)) (concerned d number sought rows)

-- the rows that a statement concerns are taken out of the table of a name
abbrev pub deleted : Table → ℕ → List Value → List (List Value) → World → List ℕ → Outcome
deleted table number sought rows world name = record {
  world = with_rows world name table (others table.definition number sought rows);
  rows = [];
  reply = Count (length (concerned table.definition number sought rows));
}

-- whatever world has the table under whatever name, what is done with the table of that name has this outcome
abbrev pub ResultsIn : (World → List ℕ → Outcome) → Table → (World → List ℕ → Outcome) → Type 0
ResultsIn does table outcome = (world : World) (name : List ℕ) → world name ≡ Some table → does world name ≡ outcome world name

-- whatever world has the table under whatever name, the delete takes the rows of these keys out of it
pub record TakesOut (does : World → List ℕ → Outcome) (table : Table) (sought : List Value) (rows keys : List (List Value)) : Type 0 where
  pub number : ℕ
  pub found : keys ≡ concerned_keys table.definition number sought rows
  pub outcome : ResultsIn does table (deleted table number sought rows)

-- whatever world has the table under whatever name, and whatever exception it met, a select from it adds these lines and has this reply
abbrev pub SelectsFrom : Table → List ℕ → List Value → List ℕ → List ℕ → Reply → Type 0
SelectsFrom table key sought before text answer =
    (world : World) (name : List ℕ) (exception : Option Exception) → world name ≡ Some table → Performs world (Select name key sought) exception world before text answer
