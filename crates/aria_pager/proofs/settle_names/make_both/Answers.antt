use Rattle.std.proofs.Common.{refl}
use Rattle.aria_page.specs.declared.place.Part.TheVariants.{Keys}
use Rattle.aria_recovery.specs.Tables.{file}
use Rattle.aria_pager.proofs.Preparing.{prepares_on}
use Rattle.aria_pager.proofs.Settling.{both_from}
use Rattle.aria_pager.proofs.settle_names.make_both.Goals as goal

pub returns-clause-prepares : goal.returns-clause-prepares
returns-clause-prepares g c = λ told log base start groups maker first at_is files is.
    let s = g.H.Host.state c.args.host.now in
    let m = g.H.Host.state c.settle_made.new.host in
    let t = g.H.Host.state c.settle_made-2.new.host in
    let one = c.in_ok-settle_made.ensures.prepares told log base start groups maker first.keys at_is files is in
    prepares_on log s m t base start groups one (c.settle_made-2.ensures.prepares told log base start groups maker first.rows at_is (c.in_ok-settle_made.ensures.files told files) one.tables)

pub returns-clause-settled : goal.returns-clause-settled
returns-clause-settled g c = λ told groups maker bound first at_is.
    let m = g.H.Host.state c.settle_made.new.host in
    let t = g.H.Host.state c.settle_made-2.new.host in
    both_from c.settle_made-2.result maker.at c.args.name.now m.folder t.folder (c.in_ok-settle_made.ensures.settled told groups maker bound first.keys at_is) (c.settle_made-2.ensures.others told (file c.args.name.now Keys) refl)
    (c.settle_made-2.ensures.settled told groups maker bound first.rows at_is)

pub returns-in_err-settle_made-clause-prepares : goal.returns-in_err-settle_made-clause-prepares
returns-in_err-settle_made-clause-prepares g c = λ told log base start groups maker first at_is files is. c.in_err-settle_made.ensures.prepares told log base start groups maker first.keys at_is files is
