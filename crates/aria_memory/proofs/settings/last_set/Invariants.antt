use Rattle.std.proofs.Common.{◌≡◌, List, drop, length}
use Rattle.std.specs.Prelude.{map}
use Rattle.std.specs.Option.{option_map}
use Rattle.aria_value.specs.declared.value.Value.{Value}
use Rattle.aria_model.specs.Step.{set_row}
use Rattle.aria_memory.specs.LastSet.{with_set}
use Rattle.aria_memory.proofs.settings.last_set.Given as goal

-- the settings to come make of a row with what is set so far what all of them make of the row
abbrev pub invariant-loop-setting : goal.invariant-loop-setting
invariant-loop-setting l = record {
  rest : (row : List Value) → set_row l.columns (drop l.setting-index l.settings) (with_set (map (option_map (λ v. v.now)) l.sets.items) row) ≡ set_row l.columns l.settings row;
  long : length l.sets.items ≡ length l.columns;
}
