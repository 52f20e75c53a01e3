use Rattle.std.proofs.Common.{◌∙◌, is_ok, sym}
use Rattle.aria_record.specs.declared.record.Record.TheVariants.{Commit}
use Rattle.aria_pager.specs.Turns.{alone}
use Rattle.aria_pager.proofs.Keeping.{was_ok}
use Rattle.aria_pager.proofs.Committed.{turned_step, turned_still}
use Rattle.aria_pager.proofs.page_store.PageStore.commit.Goals as goal

pub returns-in-Some-clause-moves : goal.returns-in-Some-clause-moves
returns-in-Some-clause-moves g c = λ told base start groups forced is.
    turned_still base start groups forced (alone c.args.self.now Commit) c.args.self.now (g.H.Host.state c.args.host.now) (λ f b left. g.met.H.Host.only_now c.args.host.now f b told left) is

pub returns-clause-moves : goal.returns-clause-moves
returns-clause-moves g c = λ told base start groups forced is.
    let mid = c.put_commit-answer.new.self in
    turned_step base start groups forced (alone c.args.self.now Commit) c.args.self.now mid mid.in_group mid.made mid.lent c.fault_in-self.result (g.H.Host.state c.args.host.now) (g.H.Host.state c.put_commit-answer.new.host) (is_ok c.put_commit-answer.result)
    (λ none. was_ok c.put_commit-answer.result (sym c.fault_in-self.ensures ∙ none)) (c.put_commit-answer.ensures.turns told base start groups forced (is.pager c.in_default.is))
