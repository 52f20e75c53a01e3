use Rattle.std.proofs.Common.{◌∙◌, is_ok, sym, refl}
use Rattle.aria_host.proofs.Answered.{on_ok}
use Rattle.aria_recovery.specs.Frames.{all_of}
use Rattle.aria_pager.specs.Laws.{stays_none}
use Rattle.aria_pager.proofs.Viewing.{tidy_same}
use Rattle.aria_pager.proofs.Keeping.{was_ok, tidy_rest, stays_step, bodies_step}
use Rattle.aria_pager.proofs.Committed.{forced_step}
use Rattle.aria_pager.proofs.page_store.PageStore.force.Goals as goal

pub returns-in-Some-clause-moves : goal.returns-in-Some-clause-moves
returns-in-Some-clause-moves g c = λ told. stays_none c.args.self.now (g.H.Host.state c.args.host.now) (λ f b left. g.met.H.Host.only_now c.args.host.now f b told left)

pub returns-clause-tidy : goal.returns-clause-tidy
returns-clause-tidy g c =
    let mid = c.force_all-answer.new.self in
    let tidy = tidy_same c.args.self.now mid c.force_all-answer.ensures.same c.requires.tidy in
    tidy_rest mid mid.in_group mid.made mid.lent c.fault_in-self.result (λ off none. tidy.closed off (c.force_all-answer.ensures.same.kept ∙ c.in_default.is)) (λ none. c.force_all-answer.ensures.same.kept ∙ c.in_default.is) tidy

pub returns-clause-moves : goal.returns-clause-moves
returns-clause-moves g c = λ told.
    let mid = c.force_all-answer.new.self in
    stays_step c.args.self.now mid mid.in_group mid.made mid.lent c.fault_in-self.result (g.H.Host.state c.args.host.now) (g.H.Host.state c.force_all-answer.new.host) (is_ok c.force_all-answer.result)
    c.force_all-answer.ensures.same c.in_default.is (λ none. was_ok c.force_all-answer.result (sym c.fault_in-self.ensures ∙ none)) (λ base start groups forced is. (c.force_all-answer.ensures.forces told (all_of groups) base start groups forced is).steps)

pub returns-clause-forces : goal.returns-clause-forces
returns-clause-forces g c = λ told. on_ok c.force_all-answer.result _ (λ on base start groups forced is.
    let mid = c.force_all-answer.new.self in
    forced_step c.args.self.now mid mid.in_group mid.made mid.lent c.fault_in-self.result (g.H.Host.state c.args.host.now) (g.H.Host.state c.force_all-answer.new.host) base start groups forced (is_ok c.force_all-answer.result)
    c.force_all-answer.ensures.same.opens on (c.force_all-answer.ensures.forces told (all_of groups) base start groups forced (is.pager c.in_default.is)))

pub returns-clause-same : goal.returns-clause-same
returns-clause-same g c = let same = c.force_all-answer.ensures.same in record {
  slots = same.slots;
  sizes = same.sizes;
  opens = same.opens;
  tables = same.tables;
  writer = same.writer;
  pending = same.pending;
  started = same.started;
  in_group = same.in_group;
  made = same.made;
  lent = same.lent;
  kept = refl;
}

pub returns-clause-bodies : goal.returns-clause-bodies
returns-clause-bodies g c = λ told. on_ok c.force_all-answer.result _ (bodies_step c.args.self.now c.force_all-answer.new.self (g.H.Host.state c.args.host.now) (g.H.Host.state c.force_all-answer.new.host) (is_ok c.force_all-answer.result) c.requires.tidy
    c.force_all-answer.ensures.same c.in_default.is (g.met.H.Host.reads_now c.args.host.now told) (g.met.H.Host.reads_now c.force_all-answer.new.host told) (c.requires.stands told) (λ base start groups forced is. (c.force_all-answer.ensures.forces told (all_of groups) base start groups forced is).steps))
