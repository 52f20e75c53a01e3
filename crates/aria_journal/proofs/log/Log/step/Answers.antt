use Rattle.std.proofs.lemmas.Result.{err_from_is_err_and}
use Rattle.aria_journal.proofs.Appending.{filled_adds}
use Rattle.aria_journal.proofs.log.Log.step.Goals as goal

pub returns-in_err-make_room-clause-added : goal.returns-in_err-make_room-clause-added
returns-in_err-make_room-clause-added g c = λ told base text is.
    let p = err_from_is_err_and c.from_residual.result c.from_residual.ensures.1 in
    rw p.1 (c.in_err-make_room.ensures.made told base text is).keeps

pub returns-clause-added : goal.returns-clause-added
returns-clause-added g c = λ told base text is.
    filled_adds c.make_room.new.self c.fill.new.self (g.H.Host.state c.args.host.now) (g.H.Host.state c.make_room.new.host) base text _ _
    (c.in_ok-make_room.ensures.made told base text is) c.fill.ensures.filled
