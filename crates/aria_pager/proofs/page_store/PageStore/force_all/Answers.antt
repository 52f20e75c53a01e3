use Rattle.std.proofs.Common.{is_ok, refl}
use Rattle.aria_host.proofs.Answered.{on_ok_of}
use Rattle.aria_pager.proofs.Looking.{looks_logged, same_logged}
use Rattle.aria_pager.proofs.Stepping.{with_log, force_step, force_none, log_running}
use Rattle.aria_pager.proofs.page_store.PageStore.force_all.Goals as goal

pub returns-then-not-self-clause-forces : goal.returns-then-not-self-clause-forces
returns-then-not-self-clause-forces g c = λ told redone base start groups forced is.
    force_none c.args.self.now (g.H.Host.state c.args.host.now) redone base start groups forced c.if-not-self.true (λ f b left. g.met.H.Host.only_now c.args.host.now f b told left) (g.met.H.Host.reads_now c.args.host.now told) is

pub returns-clause-forces : goal.returns-clause-forces
returns-clause-forces g c = λ told redone base start groups forced is.
    force_step c.args.self.now c.force.new.self (g.H.Host.state c.args.host.now) (g.H.Host.state c.force.new.host) redone base start groups forced (is_ok c.force.result) c.if-not-self.false
    (λ f left. g.met.H.Host.counts_now c.force.new.host (g.H.Host.state c.args.host.now).moment f told (c.force.ensures.moments told base groups forced (log_running c.args.self.now.started c.args.self.now.log (g.H.Host.state c.args.host.now) base groups forced c.if-not-self.false is.log)).moments.later left)
    (c.force.ensures.moments told base groups forced (log_running c.args.self.now.started c.args.self.now.log (g.H.Host.state c.args.host.now) base groups forced c.if-not-self.false is.log))
    (λ on. (on_ok_of c.force.result _ (c.force.ensures.forced told base groups forced (log_running c.args.self.now.started c.args.self.now.log (g.H.Host.state c.args.host.now) base groups forced c.if-not-self.false is.log)) on, c.force.ensures.rises)) is

pub returns-clause-pages : goal.returns-clause-pages
returns-clause-pages g c = λ told tidy.
    let p = c.requires.pager told in
    let keeps = c.force.ensures.moments told p.1 p.3 p.4 (log_running c.args.self.now.started c.args.self.now.log (g.H.Host.state c.args.host.now) p.1 p.3 p.4 c.if-not-self.false p.5.log) in
    looks_logged c.args.self.now (with_log c.args.self.now c.force.new.self) (g.H.Host.state c.args.host.now) (g.H.Host.state c.force.new.host) tidy (same_logged c.args.self.now c.force.new.self) refl keeps.others.folder c.force.ensures.rises
