use Rattle.std.proofs.Common.{true}
use Rattle.aria_pager.proofs.Stepping.{still_step}
use Rattle.aria_pager.proofs.page_store.PageStore.make_room.Goals as goal

pub returns-clause-steps : goal.returns-clause-steps
returns-clause-steps g c = λ told redone base start groups forced is.
    still_step c.args.self.now c.args.self.now (g.H.Host.state c.args.host.now) redone base start groups forced true (λ f b left. g.met.H.Host.only_now c.args.host.now f b told left) (g.met.H.Host.reads_now c.args.host.now told) (λ on p. p) is
