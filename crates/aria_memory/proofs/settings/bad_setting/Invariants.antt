use Rattle.std.proofs.Common.{◌≡◌, drop}
use Rattle.aria_model.specs.Step.{bad_setting}
use Rattle.aria_memory.proofs.settings.bad_setting.Given as goal

-- the columns set so far may hold their values, so the rest decides
abbrev pub invariant-loop-setting : goal.invariant-loop-setting
invariant-loop-setting l = bad_setting l.definition (drop l.setting-index l.settings) ≡ bad_setting l.definition l.settings
