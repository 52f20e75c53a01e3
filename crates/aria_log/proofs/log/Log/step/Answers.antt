use Rattle.std.proofs.Common.{refl}
use Rattle.aria_log.proofs.Appending.{filled_at}
use Rattle.aria_log.proofs.log.Log.step.Goals as goal

pub returns-in_err-make_room-clause-moments : goal.returns-in_err-make_room-clause-moments
returns-in_err-make_room-clause-moments g c = λ told base whole text is. (c.in_err-make_room.ensures.made told base whole text is).keeps

pub returns-clause-added : goal.returns-clause-added
returns-clause-added g c = λ told base whole text is.
    filled_at c.make_room.new.self c.fill.new.self (g.H.Host.state c.make_room.new.host) base whole text _ ((c.in_ok-make_room.ensures.made told base whole text is).at refl)
    c.fill.ensures.there c.fill.ensures.first c.fill.ensures.filled

pub returns-clause-moments : goal.returns-clause-moments
returns-clause-moments g c = λ told base whole text is. (c.in_ok-make_room.ensures.made told base whole text is).keeps
