use Rattle.std.proofs.Common.{◌≡◌, ◌∙◌, true, false, is_ok, refl, sym, ap}
use Rattle.std.proofs.lemmas.Result.{err_from_is_err_and}
use Rattle.aria_recovery.specs.Frames.{all_of}
use Rattle.aria_pager.specs.Steps.{with_start}
use Rattle.aria_pager.proofs.Stepping.{still_step, start_step, log_opened}
use Rattle.aria_pager.proofs.page_store.PageStore.start.Goals as goal

pub returns-then-self-clause-steps : goal.returns-then-self-clause-steps
returns-then-self-clause-steps g c = λ told base start groups forced is.
    still_step c.args.self.now c.args.self.now (g.H.Host.state c.args.host.now) (all_of groups) base start groups forced true (λ f b left. g.met.H.Host.only_now c.args.host.now f b told left) (g.met.H.Host.reads_now c.args.host.now told) (λ on p. p) is

pub returns-in_err-start-clause-steps : goal.returns-in_err-start-clause-steps
returns-in_err-start-clause-steps g c = λ told base start groups forced is.
    let store = c.args.self.now in
    let s = g.H.Host.state c.args.host.now in
    let p = err_from_is_err_and c.from_residual.result c.from_residual.ensures.1 in
    let failed : is_ok c.from_residual.result ≡ false = ap is_ok p.1 in
    let opened = (log_opened store.started store.log s base groups forced c.if-self.false is.log).0 in
    start_step store (with_start store store.started c.start.new.self) c.start.new.self s (g.H.Host.state c.start.new.host) (all_of groups) base start groups forced (is_ok c.from_residual.result) (λ on. absurd (let e : true ≡ false = sym on ∙ failed in (cc))) c.if-self.false
    (λ f left. g.met.H.Host.counts_now c.start.new.host (g.H.Host.state c.args.host.now).moment f told (c.in_err-start.ensures.moments told base groups opened).moments.later left)
    (c.in_err-start.ensures.moments told base groups opened) (λ on. absurd (let e : true ≡ false = sym on ∙ failed in (cc))) c.in_err-start.ensures.place is

pub returns-clause-steps : goal.returns-clause-steps
returns-clause-steps g c = λ told base start groups forced is.
    let store = c.args.self.now in
    let s = g.H.Host.state c.args.host.now in
    let opened = (log_opened store.started store.log s base groups forced c.if-self.false is.log).0 in
    start_step store (with_start store true c.start.new.self) c.start.new.self s (g.H.Host.state c.start.new.host) (all_of groups) base start groups forced true (λ on. refl) c.if-self.false
    (λ f left. g.met.H.Host.counts_now c.start.new.host (g.H.Host.state c.args.host.now).moment f told (c.in_ok-start.ensures.moments told base groups opened).moments.later left)
    (c.in_ok-start.ensures.moments told base groups opened) (λ on. c.in_ok-start.ensures.started told base groups opened) c.in_ok-start.ensures.place is

pub returns-in_err-start-clause-calm : goal.returns-in_err-start-clause-calm
returns-in_err-start-clause-calm g c = λ told.
    let p = c.requires.pager told in
    let opened = (log_opened c.args.self.now.started c.args.self.now.log (g.H.Host.state c.args.host.now) p.0 p.2 p.3 c.if-self.false p.4.log).0 in
    (c.in_err-start.ensures.moments told p.0 p.2 opened).others.folder

pub returns-clause-calm : goal.returns-clause-calm
returns-clause-calm g c = λ told.
    let p = c.requires.pager told in
    let opened = (log_opened c.args.self.now.started c.args.self.now.log (g.H.Host.state c.args.host.now) p.0 p.2 p.3 c.if-self.false p.4.log).0 in
    (c.in_ok-start.ensures.moments told p.0 p.2 opened).others.folder
