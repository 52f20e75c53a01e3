use Rattle.std.proofs.Common.{◌∙◌, is_ok, sym}
use Rattle.aria_recovery.specs.Frames.{all_of}
use Rattle.aria_pager.specs.Laws.{stays_none}
use Rattle.aria_pager.proofs.Keeping.{was_ok, stays_step}
use Rattle.aria_pager.proofs.Stepping.{look_step}
use Rattle.aria_pager.proofs.Written.{same_none}
use Rattle.aria_pager.proofs.page_store.PageStore.read_group.Goals as goal

pub returns-in-Some-clause-moves : goal.returns-in-Some-clause-moves
returns-in-Some-clause-moves g c = λ told. stays_none c.args.self.now (g.H.Host.state c.args.host.now) (λ f b left. g.met.H.Host.only_now c.args.host.now f b told left)

pub returns-clause-moves : goal.returns-clause-moves
returns-clause-moves g c = λ told.
    let store = c.args.self.now in
    let s = g.H.Host.state c.args.host.now in
    let t = g.H.Host.state c.group_at-answer.new.host in
    stays_step store store store.in_group store.made store.lent c.fault_of_group-self.result s t (is_ok c.group_at-answer.result) (same_none store) c.in_default.is (λ none. was_ok c.group_at-answer.result (sym c.fault_of_group-self.ensures ∙ none))
    (λ base start groups forced is. look_step store store s t (all_of groups) base start groups forced (is_ok c.group_at-answer.result) (λ f b left. g.met.H.Host.only_now c.args.host.now f b told left) (g.met.H.Host.reads_now c.group_at-answer.new.host told)
    (c.group_at-answer.ensures.same told) (λ on p. p) is)

pub returns-clause-group : goal.returns-clause-group
returns-clause-group g c = λ told base start groups forced logged is there. c.group_at-answer.ensures.group told base start groups forced logged (is.pager c.in_default.is) there
