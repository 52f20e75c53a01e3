use Rattle.aria_log.specs.Log.{place}
use Rattle.aria_pager.proofs.analyse.add_step.Goals as goal

pub returns-clause-takes : goal.returns-clause-takes
returns-clause-takes g c = λ told here before more checkpoint groups stands at has.
    c.in_ok-after.ensures (place c.args.log.now) more checkpoint groups (c.in_ok-step.ensures.step told here before more stands at) c.in_ok-step.ensures.group has
