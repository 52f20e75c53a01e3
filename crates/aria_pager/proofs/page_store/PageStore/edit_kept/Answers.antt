use Rattle.std.proofs.Common.{◌∙◌, [], is_ok, sym}
use Rattle.std.specs.Prelude.{unwrap_or}
use Rattle.aria_page.specs.Change.{edits_of}
use Rattle.aria_host.proofs.Answered.{on_ok, on_ok_of}
use Rattle.aria_record.specs.declared.record.Record.TheVariants.{Redo}
use Rattle.aria_pager.specs.PageStore.{name_at}
use Rattle.aria_pager.specs.Laws.{stays_none}
use Rattle.aria_pager.proofs.Keeping.{was_ok}
use Rattle.aria_pager.proofs.Lending.{open_name}
use Rattle.aria_pager.proofs.Pushing.{stays_adds}
use Rattle.aria_pager.proofs.page_store.PageStore.edit_kept.Goals as goal

pub returns-in-Some-clause-moves : goal.returns-in-Some-clause-moves
returns-in-Some-clause-moves g c = λ told. stays_none c.args.self.now (g.H.Host.state c.args.host.now) (λ f b left. g.met.H.Host.only_now c.args.host.now f b told left)

pub returns-clause-moves : goal.returns-clause-moves
returns-clause-moves g c = λ told.
    let store = c.args.self.now in
    let at = c.args.at in
    stays_adds store c.edit-answer.new.self (Redo c.args.why (unwrap_or (name_at store at.slot) []) at.part at.page (edits_of c.args.edits.now)) c.fault_in-self.result (g.H.Host.state c.args.host.now) (g.H.Host.state c.edit-answer.new.host)
    (is_ok c.edit-answer.result) c.edit-answer.ensures.same c.in_default.is (λ none. was_ok c.edit-answer.result (sym c.fault_in-self.ensures ∙ none))
    (λ base start groups forced is. c.edit-answer.ensures.adds told base start groups forced is (unwrap_or (name_at store at.slot) []) (open_name store at.slot c.requires.open))

pub returns-clause-shows : goal.returns-clause-shows
returns-clause-shows g c = λ told. on_ok c.edit-answer.result _ (λ done.
    let shows = on_ok_of c.edit-answer.result _ (c.edit-answer.ensures.shows told c.requires.tidy c.requires.group) done in
    record { bodies = shows.bodies; late = shows.late })
