use Rattle.aria_log.proofs.Opening.{opened_exactly, fresh_of}
use Rattle.aria_log.proofs.log.Log.open.Goals as goal

pub returns-clause-whole : goal.returns-clause-whole
returns-clause-whole g c = λ told.
    opened_exactly c.args.from (g.H.Host.state c.args.host.now) (g.H.Host.state c.open_in.new.host) c.open_in.result (c.open_in.ensures.same told).folder (c.open_in.ensures.opened told)

pub returns-clause-fresh : goal.returns-clause-fresh
returns-clause-fresh g c = λ told none no_log.
    fresh_of c.args.from (g.H.Host.state c.args.host.now) (g.H.Host.state c.open_in.new.host) c.open_in.result (c.open_in.ensures.same told).folder none no_log (c.open_in.ensures.opened told)
