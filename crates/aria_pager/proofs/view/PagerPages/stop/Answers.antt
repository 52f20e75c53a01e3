use Rattle.std.proofs.Common.{refl, Some}
use Rattle.aria_pager.specs.Laws.{stands_stays}
use Rattle.aria_pager.proofs.Paging.{stays_but}
use Rattle.aria_pager.proofs.view.PagerPages.stop.Goals as goal

pub returns-clause-moves : goal.returns-clause-moves
returns-clause-moves g c =
    let store = c.args.self.now.store.now in
    (refl, refl, λ told. stays_but store c.stop.new.self store.in_group store.made store.lent (Some c.stop.result) (g.H.Host.state c.args.self.now.host.now) (λ f b left. g.met.H.Host.only_now c.args.self.now.host.now f b told left) (λ none. absurd (cc)) c.stop.ensures.rest)

pub returns-clause-stands : goal.returns-clause-stands
returns-clause-stands g c =
    let store = c.args.self.now.store.now in
    let s = g.H.Host.state c.args.self.now.host.now in (
      c.stop.ensures.tidy,
      λ told. stands_stays store c.stop.new.self s s (c.requires.stands.1 told)
          (stays_but store c.stop.new.self store.in_group store.made store.lent (Some c.stop.result) s (λ f b left. g.met.H.Host.only_now c.args.self.now.host.now f b told left) (λ none. absurd (cc)) c.stop.ensures.rest),
    )
