use Rattle.aria_pager.proofs.Preparing.{prepares_on}
use Rattle.aria_pager.proofs.settle_names.remove_both.Goals as goal

pub returns-clause-prepares : goal.returns-clause-prepares
returns-clause-prepares g c = λ told log base start groups last is.
    let s = g.H.Host.state c.args.host.now in
    let m = g.H.Host.state c.settle_dropped.new.host in
    let t = g.H.Host.state c.settle_dropped-2.new.host in
    let one = c.in_ok-settle_dropped.ensures.prepares told log base start groups last is in
    prepares_on log s m t base start groups one (c.settle_dropped-2.ensures.prepares told log base start groups last one.tables)
