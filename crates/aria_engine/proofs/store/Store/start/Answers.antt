use Rattle.aria_engine.proofs.Settling.{started_keeps, recovered_pages, recovered_ends}
use Rattle.aria_engine.proofs.store.Store.start.Goals as goal

pub returns-clause-ends : goal.returns-clause-ends
returns-clause-ends g c = λ told.
    recovered_ends c.args.self.now.log c.start.new.self (g.H.Host.state c.args.host.now).folder (c.requires.recovered told).opened c.start.ensures.place

pub returns-clause-pages : goal.returns-clause-pages
returns-clause-pages g c = λ told.
    recovered_pages c.args.self.now.log c.start.new.self (g.H.Host.state c.args.host.now).folder (c.requires.recovered told).opened c.start.ensures.place

pub returns-clause-keeps : goal.returns-clause-keeps
returns-clause-keeps g c = λ told.
    started_keeps (g.H.Host.state c.args.host.now) (g.H.Host.state c.start.new.host) (g.met.H.Host.reads_now c.args.host.now told)
    (λ f leaves. g.met.H.Host.counts_now c.start.new.host _ f told (c.start.ensures.moments told).moments.later leaves)
    (c.start.ensures.moments told)
