use Rattle.std.proofs.Common.{inr, subst}
use Rattle.aria_control.specs.declared.found.Found.{Found}
use Rattle.aria_control.specs.Found.{Finds}
use Rattle.aria_pager.proofs.Beginning.{begins_of}
use Rattle.aria_pager.proofs.begin.settle_control.Goals as goal

pub returns-in-Fresh-clause-begins : goal.returns-in-Fresh-clause-begins
returns-in-Fresh-clause-begins g c = λ told.
    let s = g.H.Host.state c.args.host.now in
    inr (begins_of s (g.H.Host.state c.sync_control.new.host) (g.H.Host.state c.begin.new.host) (λ f b left. g.met.H.Host.only_now c.args.host.now f b told left)
    (subst (λ (f : Found). Finds f s.folder) c.in-Fresh.is (c.requires.found told)) (c.in_ok-sync_control.ensures.same told) (c.begin.ensures.begins told))
