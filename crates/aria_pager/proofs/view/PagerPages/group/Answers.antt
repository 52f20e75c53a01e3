use Rattle.std.proofs.Common.{refl}
use Rattle.aria_pager.specs.Laws.{stands_stays}
use Rattle.aria_pager.proofs.Paging.{stays_group, begins}
use Rattle.aria_pager.proofs.view.PagerPages.group.Goals as goal

pub returns-clause-moves : goal.returns-clause-moves
returns-clause-moves g c =
    let store = c.args.self.now.store.now in
    let to = c.begin.new.self in
    (refl, refl, λ told. stays_group store to to.frames to.writer (g.H.Host.state c.args.self.now.host.now) (λ f b left. g.met.H.Host.only_now c.args.self.now.host.now f b told left) c.requires.stands.0 c.requires.none c.begin.ensures.entries c.begin.ensures.cache c.begin.ensures.pins c.begin.ensures.rest)

pub returns-clause-stands : goal.returns-clause-stands
returns-clause-stands g c =
    let store = c.args.self.now.store.now in
    let to = c.begin.new.self in
    let s = g.H.Host.state c.args.self.now.host.now in (
      c.begin.ensures.tidy,
      λ told. stands_stays store to s s (c.requires.stands.1 told)
          (stays_group store to to.frames to.writer s (λ f b left. g.met.H.Host.only_now c.args.self.now.host.now f b told left) c.requires.stands.0 c.requires.none c.begin.ensures.entries c.begin.ensures.cache c.begin.ensures.pins c.begin.ensures.rest),
    )

pub returns-clause-begins : goal.returns-clause-begins
returns-clause-begins g c =
    let store = c.args.self.now.store.now in
    let to = c.begin.new.self in
    begins store to to.frames to.writer (g.H.Host.state c.args.self.now.host.now) c.begin.ensures.entries c.begin.ensures.bytes c.begin.ensures.cache c.begin.ensures.pins c.begin.ensures.rest
