use Rattle.std.proofs.Common.{◌∙◌, is_ok, sym, refl, subst}
use Rattle.std.specs.Prelude.{All}
use Rattle.std.specs.Global.{Vec}
use Rattle.aria_page.specs.declared.lsn.Lsn.{Lsn}
use Rattle.aria_page.specs.Lsn.{IsLsn}
use Rattle.aria_host.proofs.Answered.{on_ok_of}
use Rattle.aria_record.specs.Logged.{lsn_at_place}
use Rattle.aria_value.specs.Stored.{definition_bytes}
use Rattle.aria_log.specs.Log.{place}
use Rattle.aria_pager.specs.Filing.{first_page}
use Rattle.aria_pager.proofs.Firsts.{bodies_made}
use Rattle.aria_pager.proofs.Keeping.{was_ok}
use Rattle.aria_pager.proofs.Making.{create_of}
use Rattle.aria_pager.proofs.Turning.{turned_none, turned_step, tidy_kept, are_tidy}
use Rattle.aria_pager.proofs.page_store.PageStore.create_table.Goals as goal

pub returns-in-Some-clause-moves : goal.returns-in-Some-clause-moves
returns-in-Some-clause-moves g c = λ told base start groups forced is.
    turned_none c.args.self.now (g.H.Host.state c.args.host.now) base start groups forced (create_of c.args.name.now (definition_bytes c.args.definition.now) c.args.self.now) (λ f b left. g.met.H.Host.only_now c.args.host.now f b told left) is

pub returns-clause-tidy : goal.returns-clause-tidy
returns-clause-tidy g c =
    tidy_kept c.create_unknown-answer.new.self c.fault_with-self.result (c.create_unknown-answer.ensures.tidy (are_tidy c.args.self.now c.requires.tidy))
    (λ none. on_ok_of c.create_unknown-answer.result _ c.create_unknown-answer.ensures.empty (was_ok c.create_unknown-answer.result (sym c.fault_with-self.ensures ∙ none)))
    (subst (λ (v : Vec Lsn). All IsLsn v.items) (sym c.create_unknown-answer.ensures.same.pending) c.requires.tidy.undo)

pub returns-clause-moves : goal.returns-clause-moves
returns-clause-moves g c = λ told base start groups forced is.
    turned_step c.args.self.now c.create_unknown-answer.new.self c.fault_with-self.result (g.H.Host.state c.args.host.now) (g.H.Host.state c.create_unknown-answer.new.host) base start groups forced
    (create_of c.args.name.now (definition_bytes c.args.definition.now) c.args.self.now) (is_ok c.create_unknown-answer.result) (λ none. was_ok c.create_unknown-answer.result (sym c.fault_with-self.ensures ∙ none))
    (c.create_unknown-answer.ensures.turns told base start groups forced (is.pager c.in_default.is))

pub returns-clause-bodies : goal.returns-clause-bodies
returns-clause-bodies g c = λ told.
    bodies_made c.args.self.now c.create_unknown-answer.new.self _ (g.H.Host.state c.create_unknown-answer.new.host).folder c.args.name.now (first_page c.args.definition.now (lsn_at_place (place c.args.self.now.log))) c.create_unknown-answer.result
    refl refl (returns-clause-tidy g c) c.create_unknown-answer.ensures.enters (c.create_unknown-answer.ensures.unheld told) (c.create_unknown-answer.ensures.made told) c.create_unknown-answer.ensures.whole
