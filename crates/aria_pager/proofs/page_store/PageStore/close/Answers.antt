use Rattle.aria_pager.proofs.Written.{closes}
use Rattle.aria_pager.proofs.page_store.PageStore.close.Goals as goal

pub returns-clause-closes : goal.returns-clause-closes
returns-clause-closes g c = λ told. closes c.args.self c.write_all.new.self (g.H.Host.state c.args.host.now) (g.H.Host.state c.write_all.new.host) c.write_all.result (c.write_all.ensures.moves told) (c.write_all.ensures.forces told)
