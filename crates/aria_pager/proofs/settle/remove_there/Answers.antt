use Rattle.std.proofs.Common.{is_ok}
use Rattle.aria_host.proofs.Moments.{looks}
use Rattle.aria_pager.proofs.Preparing.{prepares_look}
use Rattle.aria_pager.proofs.Settling.{free_prepares}
use Rattle.aria_pager.proofs.settle.remove_there.Goals as goal

pub returns-in_err-found-clause-prepares : goal.returns-in_err-found-clause-prepares
returns-in_err-found-clause-prepares g c = λ told log base start groups free is.
    let s = g.H.Host.state c.args.host.now in
    let m = g.H.Host.state c.look.new.self in
    prepares_look log s m base start groups (λ f b left. g.met.H.Host.only_now c.args.host.now f b told left) (g.met.H.Host.reads_now c.look.new.self told) (looks s m (c.in_err-found.ensures.same told)) is

pub returns-then-is_none-clause-prepares : goal.returns-then-is_none-clause-prepares
returns-then-is_none-clause-prepares g c = λ told log base start groups free is.
    let s = g.H.Host.state c.args.host.now in
    let m = g.H.Host.state c.look.new.self in
    prepares_look log s m base start groups (λ f b left. g.met.H.Host.only_now c.args.host.now f b told left) (g.met.H.Host.reads_now c.look.new.self told) (looks s m (c.in_ok-found.ensures.same told)) is

pub returns-clause-prepares : goal.returns-clause-prepares
returns-clause-prepares g c = λ told log base start groups free is.
    let s = g.H.Host.state c.args.host.now in
    let m = g.H.Host.state c.look.new.self in
    let t = g.H.Host.state c.remove.new.self in
    free_prepares log s m t base start groups c.args.file.now (is_ok c.remove.result) (λ f b left. g.met.H.Host.only_now c.args.host.now f b told left) (λ f b left. g.met.H.Host.only_now c.look.new.self f b told left)
    (g.met.H.Host.reads_now c.look.new.self told) (g.met.H.Host.reads_now c.remove.new.self told) (looks s m (c.in_ok-found.ensures.same told)) free (c.remove.ensures.removed told) is
