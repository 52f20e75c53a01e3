use Rattle.std.proofs.Common.{◌+◌, sym}
use Rattle.aria_log.specs.declared.step.Step.{Step}
use Rattle.aria_log.specs.declared.step.Step.TheVariants.{Group}
use Rattle.aria_log.specs.Log.{place}
use Rattle.aria_log.specs.Stepping.{IsStep}
use Rattle.aria_log.proofs.Steps.{group_told}
use Rattle.aria_log.proofs.log.Log.group_step.Goals as goal

pub returns-clause-step : goal.returns-clause-step
returns-clause-step c = λ files entries last bytes rest left read are found size.
    rw (c.lsn_of_place.ensures, c.lsn_of_place-2.ensures)
    (group_told c.args.self.now files entries last bytes rest c.args.group c.args.at c.args.size c.args.read c.after.result c.requires.page left read are found size c.requires.read
    (record { here = c.after.ensures.here; last = c.after.ensures.last; next = c.after.ensures.next }))
