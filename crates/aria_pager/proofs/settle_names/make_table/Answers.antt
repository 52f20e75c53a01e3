use Rattle.aria_host.proofs.Moments.{looks}
use Rattle.aria_pager.proofs.Preparing.{prepares_look, prepares_on}
use Rattle.aria_pager.proofs.Settling.{files_look}
use Rattle.aria_pager.proofs.SettlingNames.{group_on}
use Rattle.aria_pager.proofs.settle_names.make_table.Goals as goal

pub returns-in_err-keys-clause-prepares : goal.returns-in_err-keys-clause-prepares
returns-in_err-keys-clause-prepares g c = λ told base start groups maker last at_is is files.
    let s = g.H.Host.state c.args.host.now in
    let m = g.H.Host.state c.made_pages.new.host in
    prepares_look c.args.log.now s m base start groups (λ f b left. g.met.H.Host.only_now c.args.host.now f b told left) (g.met.H.Host.reads_now c.made_pages.new.host told) (looks s m (c.in_err-keys.ensures.same told)) is

pub returns-clause-prepares : goal.returns-clause-prepares
returns-clause-prepares g c = λ told base start groups maker last at_is is files.
    let s = g.H.Host.state c.args.host.now in
    let m = g.H.Host.state c.made_pages.new.host in
    let t = g.H.Host.state c.make_both.new.host in
    let same = looks s m (c.in_ok-keys.ensures.same told) in
    let one = prepares_look c.args.log.now s m base start groups (λ f b left. g.met.H.Host.only_now c.args.host.now f b told left) (g.met.H.Host.reads_now c.made_pages.new.host told) same is in
    prepares_on c.args.log.now s m t base start groups one (c.make_both.ensures.prepares told c.args.log.now base start groups maker (c.in_ok-keys.ensures.pages told base groups maker is.log last at_is) at_is (files_look s m same files) one.tables)

pub returns-clause-settled : goal.returns-clause-settled
returns-clause-settled g c = λ told base groups maker last at_is is. c.make_both.ensures.settled told groups maker _ (c.in_ok-keys.ensures.pages told base groups maker is last at_is) at_is

pub returns-clause-cause : goal.returns-clause-cause
returns-clause-cause g c = group_on g.H.Host.tells (g.H.Host.state c.args.host.now) (g.H.Host.state c.made_pages.new.host) (g.H.Host.state c.make_both.new.host) c.make_both.result c.in_ok-keys.ensures.cause.calm c.in_ok-keys.ensures.cause.tell c.make_both.ensures.cause
