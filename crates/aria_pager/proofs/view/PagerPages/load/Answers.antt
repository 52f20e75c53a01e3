use Rattle.std.proofs.Common.{[], is_ok, ap}
use Rattle.std.specs.Prelude.{unwrap_or}
use Rattle.aria_cache.specs.PageState.{table_file}
use Rattle.aria_pager.specs.PageStore.{name_at}
use Rattle.aria_pager.specs.Laws.{stands_stays}
use Rattle.aria_pager.proofs.Lending.{page_low}
use Rattle.aria_pager.proofs.Glanced.{look_cause}
use Rattle.aria_pager.proofs.Paging.{loads, page_cause}
use Rattle.aria_pager.proofs.view.PagerPages.load.Goals as goal

pub returns-clause-stands : goal.returns-clause-stands
returns-clause-stands g c = (c.load.ensures.tidy, λ told. stands_stays c.args.self.now.store.now c.load.new.self (g.H.Host.state c.args.self.now.host.now) (g.H.Host.state c.load.new.host) (c.requires.stands.1 told) (c.load.ensures.moves told))

pub returns-clause-loads : goal.returns-clause-loads
returns-clause-loads g c = loads g.H.Host.tells c.args.self.now.store.now c.load.new.self (g.H.Host.state c.args.self.now.host.now) (g.H.Host.state c.load.new.host) (is_ok c.load.result) c.requires.stands.0 c.load.ensures.same c.load.ensures.reach c.load.ensures.pins c.load.ensures.pages c.load.ensures.lent

pub returns-clause-cause : goal.returns-clause-cause
returns-clause-cause g c =
    let store = c.args.self.now.store.now in
    let to = c.load.new.self in
    let at = c.args.at in
    let s = g.H.Host.state c.args.self.now.host.now in
    let t = g.H.Host.state c.load.new.host in
    page_cause g.H.Host.tells (table_file (unwrap_or (name_at store at.slot) []) at.part) at.page store to s t c.load.result
    (λ none. look_cause g.H.Host.tells store to s t at c.load.ensures.tidy (page_low store at.slot at.part at.page c.requires.stands.0 c.requires.open c.requires.below) c.requires.open c.load.ensures.same.slots c.load.ensures.pages c.load.result (c.load.ensures.cause none))
    (λ some. ap (λ h. (g.H.Host.state h).disk_faults) (c.load.ensures.still some).1)
