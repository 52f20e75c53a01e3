use Rattle.std.proofs.Common.{◌≡◌, drop}
use Rattle.aria_model.specs.Step.{unknown_column}
use Rattle.aria_memory.proofs.settings.has_columns.Given as goal

-- the columns set so far are there, so the rest decides
abbrev pub invariant-loop-setting : goal.invariant-loop-setting
invariant-loop-setting l = unknown_column l.columns (drop l.setting-index l.settings) ≡ unknown_column l.columns l.settings
