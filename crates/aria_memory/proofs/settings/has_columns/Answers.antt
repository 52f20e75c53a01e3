use Rattle.std.proofs.Common.{◌≡◌, ◌+◌, drop, sym, ap, ◌∙◌}
use Rattle.std.specs.Prelude.{true, false, cond, Some}
use Rattle.std.specs.List.{list_any}
use Rattle.aria_value.specs.Defined.{same_name}
use Rattle.aria_model.specs.declared.refusal.Refusal.TheVariants.{NoColumn}
use Rattle.aria_model.specs.Step.{unknown_column}
use Rattle.aria_memory.proofs.SetColumns.{unknown_here}
use Rattle.aria_memory.proofs.settings.has_columns.Goals as goal

pub returns-then-not-has_column : goal.returns-then-not-has_column
returns-then-not-has_column c =
    let columns = c.args.columns.now in
    let settings = c.args.settings.now in
    let i = c.loop-setting.setting-index in
    let setting = c.setting-item.result in
    let missing : list_any (λ x. same_name x.name setting.column) columns ≡ false = sym c.has_column.ensures ∙ c.if-not-has_column.true in
    sym (unknown_here columns settings i setting c.loop-setting-test.true c.setting-item.is
    ∙ ap (λ b. cond b (unknown_column columns (drop (i + 1) settings)) (Some (NoColumn setting.column))) missing)
    ∙ c.loop-setting.invariant

pub loop-setting-preserved : goal.loop-setting-preserved
loop-setting-preserved c =
    let columns = c.args.columns.now in
    let settings = c.args.settings.now in
    let i = c.loop-setting.setting-index in
    let setting = c.setting-item.result in
    let there : list_any (λ x. same_name x.name setting.column) columns ≡ true = sym c.has_column.ensures ∙ c.if-not-has_column.false in
    sym (unknown_here columns settings i setting c.loop-setting-test.true c.setting-item.is
    ∙ ap (λ b. cond b (unknown_column columns (drop (i + 1) settings)) (Some (NoColumn setting.column))) there)
    ∙ c.loop-setting.invariant
