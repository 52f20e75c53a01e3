use Rattle.std.proofs.Common.{arith}
use Rattle.aria_log.proofs.Steps.{rest_told}
use Rattle.aria_log.proofs.log.Log.rest_step.Goals as goal

pub returns-clause-step : goal.returns-clause-step
returns-clause-step c = λ files entries last bytes left ends end are none.
    rw (c.lsn_of_place.ensures, c.lsn_of_place-2.ensures)
    (rest_told c.args.self.now files entries last bytes c.args.at c.args.end _ c.after.result c.requires.page left ends end c.requires.some are none c.requires.end (omega (arith, end))
    (record { here = c.after.ensures.here; last = c.after.ensures.last; next = c.after.ensures.next }))
