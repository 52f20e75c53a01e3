use Rattle.std.proofs.Common.{refl, false}
use Rattle.aria_pager.specs.Laws.{stands_stays}
use Rattle.aria_pager.proofs.Paging.{stays_but}
use Rattle.aria_pager.proofs.view.PagerPages.leave.Goals as goal

pub returns-clause-moves : goal.returns-clause-moves
returns-clause-moves g c =
    let store = c.args.self.now.store.now in
    (refl, refl, λ told. stays_but store c.leave.new.self false store.made store.lent store.kept (g.H.Host.state c.args.self.now.host.now) (λ f b left. g.met.H.Host.only_now c.args.self.now.host.now f b told left) (λ none. none) c.leave.ensures.rest)

pub returns-clause-stands : goal.returns-clause-stands
returns-clause-stands g c =
    let store = c.args.self.now.store.now in
    let s = g.H.Host.state c.args.self.now.host.now in (
      c.leave.ensures.tidy,
      λ told. stands_stays store c.leave.new.self s s (c.requires.stands.1 told)
          (stays_but store c.leave.new.self false store.made store.lent store.kept s (λ f b left. g.met.H.Host.only_now c.args.self.now.host.now f b told left) (λ none. none) c.leave.ensures.rest),
    )
