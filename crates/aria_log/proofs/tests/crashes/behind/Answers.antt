use Rattle.std.proofs.Common.{subst}
use Rattle.aria_log.specs.declared.step.Step.{Step}
use Rattle.aria_log.specs.Log.{place}
use Rattle.aria_log.specs.Stepping.{IsStep}
use Rattle.aria_log.proofs.Walking.{behind_group, behind_rest}
use Rattle.aria_log.proofs.tests.crashes.behind.Goals as goal

pub returns-in-Group : goal.returns-in-Group
returns-in-Group c = λ log files at before more stands is.
    let next = behind_group log files at before more c.in-Group.at c.in-Group.group c.in-Group.after stands (subst (λ (step : Step). IsStep (place log) more step) c.in-Group.is is) in
    (next.at, next.before, next.more, next.stands, next.after_is)

pub returns-in-Rest : goal.returns-in-Rest
returns-in-Rest c = λ log files at before more stands is.
    let next = behind_rest log files at before more c.in-Rest.at c.in-Rest.bytes c.in-Rest.after stands (subst (λ (step : Step). IsStep (place log) more step) c.in-Rest.is is) in
    (next.at, next.before, next.more, next.stands, next.after_is)
