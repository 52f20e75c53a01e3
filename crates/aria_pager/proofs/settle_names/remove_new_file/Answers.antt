use Rattle.std.proofs.Common.{◌∙◌, sym}
use Rattle.aria_pager.proofs.Preparing.{prepares_none}
use Rattle.aria_pager.proofs.SettlingNames.{aside_free}
use Rattle.aria_pager.proofs.settle_names.remove_new_file.Goals as goal

pub returns-then-not-is_aside-clause-prepares : goal.returns-then-not-is_aside-clause-prepares
returns-then-not-is_aside-clause-prepares g c = λ told log base start groups is. prepares_none log (g.H.Host.state c.args.host.now) base start groups (λ f b left. g.met.H.Host.only_now c.args.host.now f b told left) is

pub returns-clause-prepares : goal.returns-clause-prepares
returns-clause-prepares g c = λ told log base start groups is.
    c.remove_there.ensures.prepares told log base start groups (aside_free c.args.file.now (g.H.Host.state c.args.host.now) groups (sym c.is_aside.ensures ∙ c.if-not-is_aside.false)) is
