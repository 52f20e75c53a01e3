use Rattle.std.proofs.Common.{sym, subst}
use Rattle.aria_host.specs.declared.file_name.FileName.{FileName}
use Rattle.aria_pager.specs.Prepared.{IsFree}
use Rattle.aria_pager.proofs.Settling.{dropped_free}
use Rattle.aria_pager.proofs.settle.settle_dropped.Goals as goal

pub returns-clause-prepares : goal.returns-clause-prepares
returns-clause-prepares g c = λ told log base start groups last is.
    let s = g.H.Host.state c.args.host.now in
    c.remove_there.ensures.prepares told log base start groups (subst (λ (f : FileName). IsFree f s groups) (sym c.file_of-file.ensures) (dropped_free s groups c.args.name.now c.args.part last)) is
