use Rattle.std.proofs.Common.{is_ok, refl}
use Rattle.aria_pager.proofs.Evicting.{forced_already, forced_now}
use Rattle.aria_pager.proofs.page_store.PageStore.force_for.Goals as goal

pub returns-then-is_forced-clause-forces : goal.returns-then-is_forced-clause-forces
returns-then-is_forced-clause-forces g c = λ told redone base start groups forced is.
    forced_already c.args.self.now (g.H.Host.state c.args.host.now) redone base start groups forced c.args.lsn (λ f b left. g.met.H.Host.only_now c.args.host.now f b told left) (g.met.H.Host.reads_now c.args.host.now told)
    c.is_forced.result c.if-is_forced.true (c.is_forced.ensures.tells told base groups forced) is

pub returns-clause-forces : goal.returns-clause-forces
returns-clause-forces g c = λ told redone base start groups forced is.
    forced_now c.args.self.now c.force_all.new.self (g.H.Host.state c.args.host.now) (g.H.Host.state c.force_all.new.host) redone base start groups forced c.args.lsn (is_ok c.force_all.result) (c.force_all.ensures.forces told redone base start groups forced is)
