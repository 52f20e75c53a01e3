-- The tables that there are.
use Rattle.std.specs.Prelude.{ℕ, Bool, List, Option, None, if◌then◌else◌}
use Rattle.aria_value.specs.declared.value.Value.{Value}
use Rattle.aria_value.specs.declared.definition.Definition.{Definition}
use Rattle.aria_value.specs.Defined.{same_name}

-- the rows of a table rise strictly by its first key; a plain table that may have lost rows has none to show
pub data Content : Type 0 where
  Sound : List (List Value) → Content
  Crashed : Content

-- a plain table isn't logged; every other is transactional
pub record Table : Type 0 where
  pub definition : Definition
  pub plain : Bool
  pub content : Content

-- the table of each name that is taken
abbrev pub World : Type 0
World = List ℕ → Option Table

abbrev pub empty_world : World
empty_world = λ name. None

-- the world with this in the place of the table of a name
abbrev pub with_table : World → List ℕ → Option Table → World
with_table world name table = λ other. if same_name other name then table else world other
