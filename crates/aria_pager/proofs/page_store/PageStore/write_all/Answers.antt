use Rattle.std.proofs.Common.{ℕ, List, ◌≡◌, ◌∙◌, is_ok, Option, Some, sym, subst, refl}
use Rattle.std.specs.Prelude.{OnOk}
use Rattle.aria_page.specs.declared.place.Part.{Part}
use Rattle.aria_host.specs.Folder.{Folder}
use Rattle.aria_host.proofs.Answered.{on_ok}
use Rattle.aria_recovery.specs.Tables.{file}
use Rattle.aria_recovery.specs.Frames.{all_of}
use Rattle.aria_pager.specs.Laws.{stays_none}
use Rattle.aria_pager.proofs.Viewing.{tidy_same}
use Rattle.aria_pager.proofs.Keeping.{was_ok, tidy_rest, stays_step, bodies_step}
use Rattle.aria_pager.proofs.Committed.{forced_step}
use Rattle.aria_pager.proofs.Written.{none_pinned}
use Rattle.aria_pager.proofs.page_store.PageStore.write_all.Goals as goal

pub returns-in-Some-clause-moves : goal.returns-in-Some-clause-moves
returns-in-Some-clause-moves g c = λ told. stays_none c.args.self.now (g.H.Host.state c.args.host.now) (λ f b left. g.met.H.Host.only_now c.args.host.now f b told left)

pub returns-clause-tidy : goal.returns-clause-tidy
returns-clause-tidy g c =
    let mid = c.write_files-answer.new.self in
    let tidy = tidy_same c.args.self.now mid c.write_files-answer.ensures.same c.requires.tidy in
    tidy_rest mid mid.in_group mid.made mid.lent c.fault_in-self.result (λ off none. tidy.closed off (c.write_files-answer.ensures.same.kept ∙ c.in_default.is)) (λ none. c.write_files-answer.ensures.same.kept ∙ c.in_default.is) tidy

pub returns-clause-moves : goal.returns-clause-moves
returns-clause-moves g c = λ told.
    let mid = c.write_files-answer.new.self in
    stays_step c.args.self.now mid mid.in_group mid.made mid.lent c.fault_in-self.result (g.H.Host.state c.args.host.now) (g.H.Host.state c.write_files-answer.new.host) (is_ok c.write_files-answer.result)
    c.write_files-answer.ensures.same c.in_default.is (λ none. was_ok c.write_files-answer.result (sym c.fault_in-self.ensures ∙ none)) (λ base start groups forced is. (c.write_files-answer.ensures.forces told (all_of groups) base start groups forced is).steps)

pub returns-clause-forces : goal.returns-clause-forces
returns-clause-forces g c = λ told. on_ok c.write_files-answer.result _ (λ on base start groups forced is.
    let mid = c.write_files-answer.new.self in
    forced_step c.args.self.now mid mid.in_group mid.made mid.lent c.fault_in-self.result (g.H.Host.state c.args.host.now) (g.H.Host.state c.write_files-answer.new.host) base start groups forced (is_ok c.write_files-answer.result)
    c.write_files-answer.ensures.same.opens on (c.write_files-answer.ensures.forces told (all_of groups) base start groups forced (is.pager c.in_default.is)))

pub returns-clause-same : goal.returns-clause-same
returns-clause-same g c = let same = c.write_files-answer.ensures.same in record {
  slots = same.slots;
  sizes = same.sizes;
  opens = same.opens;
  tables = same.tables;
  writer = same.writer;
  pending = same.pending;
  started = same.started;
  in_group = same.in_group;
  made = same.made;
  lent = same.lent;
  kept = refl;
}

pub returns-clause-bodies : goal.returns-clause-bodies
returns-clause-bodies g c = λ told. on_ok c.write_files-answer.result _ (bodies_step c.args.self.now c.write_files-answer.new.self (g.H.Host.state c.args.host.now) (g.H.Host.state c.write_files-answer.new.host) (is_ok c.write_files-answer.result) c.requires.tidy
    c.write_files-answer.ensures.same c.in_default.is (g.met.H.Host.reads_now c.args.host.now told) (g.met.H.Host.reads_now c.write_files-answer.new.host told) (c.requires.stands told) (λ base start groups forced is. (c.write_files-answer.ensures.forces told (all_of groups) base start groups forced is).steps))

pub write_files-answer-requires-clause-free : goal.write_files-answer-requires-clause-free
write_files-answer-requires-clause-free g c = λ told.
    let is = c.requires.stands told in
    none_pinned c.args.self.now (g.H.Host.state c.args.host.now) (all_of is.2) is.0 is.1 is.2 is.3 (c.requires.tidy.closed c.requires.none c.in_default.is) (is.4.pager c.in_default.is)

pub returns-clause-durable : goal.returns-clause-durable
returns-clause-durable g c = λ told.
    subst (λ (f : ℕ → Option (List ℕ)). OnOk c.write_files-answer.result ((d : Folder) → (g.H.Host.state c.write_files-answer.new.host).may_leave d → (n : ℕ) (name : List ℕ) → f n ≡ Some name → (part : Part) → d (file name part) ≡ (g.H.Host.state c.write_files-answer.new.host).folder (file name part)))
    c.write_files-answer.ensures.same.slots (c.write_files-answer.ensures.durable told)
