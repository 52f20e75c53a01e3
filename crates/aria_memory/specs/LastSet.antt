-- What the settings of an update come to: for each column the value that it is set to last.
use Rattle.std.specs.Prelude.{◌≡◌, List, [], ◌∷◌, Option}
use Rattle.std.specs.Option.{unwrap_or}
use Rattle.aria_value.specs.declared.value.Value.{Value}
use Rattle.aria_value.specs.declared.definition.Column.{Column}
use Rattle.aria_model.specs.declared.statement.Setting.{Setting}
use Rattle.aria_model.specs.Step.{set_row}

-- a row with the values that its columns are set to, and its own in the others
abbrev pub with_set : List (Option Value) → List Value → List Value
with_set sets [] = []
with_set [] (old ∷ row) = old ∷ row
with_set (set ∷ sets) (old ∷ row) = unwrap_or set old ∷ with_set sets row

-- setting each column once makes of each row what the settings make of it, one after another
abbrev pub AreLastSet : List Column → List Setting → List (Option Value) → Type 0
AreLastSet columns settings sets = (row : List Value) → with_set sets row ≡ set_row columns settings row
