-- The rows that an update changes, one after another, and what it notes to take its changes back.
use Rattle.std.specs.Prelude.{◌≡◌, if◌then◌else◌, List, [], ◌∷◌, map, Option, Some, None}
use Rattle.std.specs.Option.{is_some}
use Rattle.std.specs.BTreeMap.{is_at, insert_entry}
use Rattle.std.specs.Map.{remove_entry}
use Rattle.aria_value.specs.declared.value.Value.{Value}
use Rattle.aria_value.specs.declared.definition.Definition.{Definition}
use Rattle.aria_value.specs.Order.{key_columns}
use Rattle.aria_model.specs.declared.refusal.Refusal.{Refusal}
use Rattle.aria_model.specs.declared.statement.Setting.{Setting}
use Rattle.aria_model.specs.Step.{set_row, set_all}
use Rattle.aria_memory.specs.declared.update.Change.{Change}
use Rattle.aria_memory.specs.declared.update.Done.{Done}
use Rattle.aria_memory.specs.Keyed.{values_cmp, values_in}

-- a row's key, and what the settings make of it
abbrev pub change_of : Definition → List Setting → List Value → Change
change_of d settings old = record { key = values_in (key_columns d.keys 0) old; row = set_row d.columns settings old }

-- for whatever rows and settings these are the changes, the rows are set one after another up to the first that is refused
pub record IsSet (d : Definition) (changes : List Change) (old new : List (List Value)) (answer : Option Refusal) : Type 0 where
  pub rows : (settings : List Setting) (olds : List (List Value)) → changes ≡ map (change_of d settings) olds → new ≡ (set_all d settings None 1 old olds).rows
  pub refusal : (settings : List Setting) (olds : List (List Value)) → changes ≡ map (change_of d settings) olds → answer ≡ (set_all d settings None 1 old olds).refusal

-- the same, but a refusal leaves the rows as they were
pub record IsUpdated (d : Definition) (changes : List Change) (old new : List (List Value)) (answer : Option Refusal) : Type 0 where
  pub rows : (settings : List Setting) (olds : List (List Value)) → changes ≡ map (change_of d settings) olds
      → new ≡ (if is_some answer then old else (set_all d settings None 1 old olds).rows)
  pub refusal : (settings : List Setting) (olds : List (List Value)) → changes ≡ map (change_of d settings) olds → answer ≡ (set_all d settings None 1 old olds).refusal

-- an entry put back
abbrev pub put_back : Option (List Value × List Value) → List (List Value × List Value) → List (List Value × List Value)
put_back None entries = entries
put_back (Some was) entries = insert_entry values_cmp entries was.0 was.1

-- what is left once these changes are taken back, the last first
abbrev pub taken_back : List Done → List (List Value × List Value) → List (List Value × List Value)
taken_back [] entries = entries
taken_back (step ∷ steps) entries = put_back step.was (remove_entry (is_at (values_cmp step.key)) (taken_back steps entries))
