use Rattle.std.proofs.Common.{sym, arith}
use Rattle.std.proofs.lemmas.Result.{err_from_is_err_and}
use Rattle.aria_model.specs.Grammar.{setting, behind_comma}
use Rattle.aria_statement.specs.Lexing.{left}
use Rattle.aria_statement.proofs.Items.{goes_on, is_done, is_fault}
use Rattle.aria_statement.proofs.Shorter.{settings_shorten}
use Rattle.aria_statement.proofs.rows.read_settings.Goals as goal

pub returns-in_err-setting : goal.returns-in_err-setting
returns-in_err-setting c =
    let p = err_from_is_err_and c.from_residual.result c.from_residual.ensures.1 in
    rw (p.1, p.2) (is_fault setting behind_comma c.loop-settings.settings (left c.args.line.now c.loop-settings.next) _ c.in_err-setting.field-0.0 settings_shorten c.in_err-setting.ensures c.loop-settings.invariant)

pub returns-in-None : goal.returns-in-None
returns-in-None c = rw c.in_ok-push.ensures.ok (is_done setting behind_comma c.loop-settings.settings (left c.args.line.now c.loop-settings.next) _ c.in_ok-setting.setting (left c.args.line.now c.in_ok-setting.behind) settings_shorten c.in_ok-setting.ensures (sym c.in-None.ensures) c.loop-settings.invariant)

pub loop-settings-smaller : goal.loop-settings-smaller
loop-settings-smaller c = omega (arith, settings_shorten.shorter (left c.args.line.now c.loop-settings.next) (c.in_ok-setting.setting, left c.args.line.now c.in_ok-setting.behind) c.in_ok-setting.ensures, settings_shorten.no_longer (left c.args.line.now c.in_ok-setting.behind) (left c.args.line.now c.in-Some.place) (sym c.in-Some.ensures))

pub loop-settings-preserved : goal.loop-settings-preserved
loop-settings-preserved c = rw c.in_ok-push.ensures.ok (goes_on setting behind_comma c.loop-settings.settings (left c.args.line.now c.loop-settings.next) _ c.in_ok-setting.setting (left c.args.line.now c.in_ok-setting.behind) (left c.args.line.now c.in-Some.place) settings_shorten c.in_ok-setting.ensures (sym c.in-Some.ensures) c.loop-settings.invariant)
