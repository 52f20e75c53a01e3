use Rattle.std.proofs.Common.{◌≡◌, ◌∙◌, is_ok, sym, subst, refl, Option, Some}
use Rattle.std.specs.Prelude.{IfSome, All}
use Rattle.std.specs.Global.{Vec}
use Rattle.aria_page.specs.declared.lsn.Lsn.{Lsn}
use Rattle.aria_page.specs.Lsn.{IsLsn}
use Rattle.aria_host.specs.declared.fault.Fault.{Fault}
use Rattle.aria_host.proofs.Answered.{on_ok_of}
use Rattle.aria_pager.proofs.Keeping.{was_ok}
use Rattle.aria_pager.proofs.Logging.{drop_of}
use Rattle.aria_pager.proofs.Turning.{turned_none, turned_step, tidy_kept, are_tidy}
use Rattle.aria_pager.proofs.page_store.PageStore.drop_table.Goals as goal

pub returns-in-Some-clause-moves : goal.returns-in-Some-clause-moves
returns-in-Some-clause-moves g c = λ told base start groups forced is. turned_none c.args.self.now (g.H.Host.state c.args.host.now) base start groups forced (drop_of c.args.name.now c.args.self.now) (λ f b left. g.met.H.Host.only_now c.args.host.now f b told left) is

pub returns-in-Some-clause-keeps : goal.returns-in-Some-clause-keeps
returns-in-Some-clause-keeps g c = c.in-Some.is

pub returns-in-Some-clause-again : goal.returns-in-Some-clause-again
returns-in-Some-clause-again g c = subst (λ (o : Option Fault). IfSome o (λ kept. Some c.in-Some.fault ≡ Some kept)) (sym c.in-Some.is) refl

pub returns-clause-tidy : goal.returns-clause-tidy
returns-clause-tidy g c =
    tidy_kept c.drop_known-answer.new.self c.fault_in-self.result (c.drop_known-answer.ensures.tidy (are_tidy c.args.self.now c.requires.tidy))
    (λ none. on_ok_of c.drop_known-answer.result _ c.drop_known-answer.ensures.empty (was_ok c.drop_known-answer.result (sym c.fault_in-self.ensures ∙ none)))
    (subst (λ (v : Vec Lsn). All IsLsn v.items) (sym c.drop_known-answer.ensures.same.pending) c.requires.tidy.undo)

pub returns-clause-moves : goal.returns-clause-moves
returns-clause-moves g c = λ told base start groups forced is.
    turned_step c.args.self.now c.drop_known-answer.new.self c.fault_in-self.result (g.H.Host.state c.args.host.now) (g.H.Host.state c.drop_known-answer.new.host) base start groups forced (drop_of c.args.name.now c.args.self.now) (is_ok c.drop_known-answer.result)
    (λ none. was_ok c.drop_known-answer.result (sym c.fault_in-self.ensures ∙ none)) (c.drop_known-answer.ensures.turns told base start groups forced (is.pager c.in_default.is))
