use Rattle.std.proofs.Common.{rules, false, ℕ, List, [], ◌∷◌, ◌++◌, reverse, ap, sym, subst}
use Rattle.std.specs.Prelude.{IsSome}
use Rattle.aria_record.proofs.Writers.{written_is}
use Rattle.aria_record.specs.Writing.{last_record, records_of}
use Rattle.aria_cache.specs.Ending.{newest}
use Rattle.aria_log.specs.Log.{place}
use Rattle.aria_pager.specs.declared.page_store.PageStore.{PageStore}
use Rattle.aria_pager.specs.PageStore.{name_at, opened, with_writer, with_rest}
use Rattle.aria_pager.specs.View.{IsTidy}
use Rattle.aria_pager.proofs.EndKept.{stays_kept, tidy_ended, undo_by, stays_by, ends_by, looks_ended}
use Rattle.aria_pager.proofs.page_store.PageStore.end_kept.Goals as goal

pub returns-in-Some-clause-stays : goal.returns-in-Some-clause-stays
returns-in-Some-clause-stays g c = λ told. stays_kept c.args.self.now c.clear.new.self (g.H.Host.state c.args.host.now) (λ f b left. g.met.H.Host.only_now c.args.host.now f b told left) (subst IsSome (sym c.in-Some.is) (search rules))

pub returns-in-Some-clause-entries : goal.returns-in-Some-clause-entries
returns-in-Some-clause-entries g c = written_is c.clear.new.self [] c.clear.ensures.writes

pub returns-clause-entries : goal.returns-clause-entries
returns-clause-entries g c = written_is c.clear-2.new.self [] c.clear-2.ensures.writes

pub returns-clause-tidy : goal.returns-clause-tidy
returns-clause-tidy g c =
    let mid = c.end-answer.new.self in
    subst (λ (v : PageStore). IsTidy (with_rest (with_writer v c.clear-2.new.self) false v.made v.lent c.fault_in-self.result)) (sym c.end-answer.ensures.rest)
    (tidy_ended c.args.self.now mid.log mid.started mid.frames c.clear-2.new.self mid.pending c.fault_in-self.result c.clear-2.ensures.writes
    (undo_by c.end-answer.result c.args.self.now.log c.args.last.now c.args.self.now.pending.items mid.pending.items c.requires.tidy.undo c.end-answer.ensures.pending c.end-answer.ensures.pending_err c.end-answer.ensures.lsn) c.requires.tidy)

pub returns-clause-stays : goal.returns-clause-stays
returns-clause-stays g c = λ told. stays_by c.end-answer.result c.args.self.now c.end-answer.new.self c.clear-2.new.self c.fault_in-self.result (g.H.Host.state c.args.host.now) (g.H.Host.state c.end-answer.new.host) c.fault_in-self.ensures
    (ap (λ (v : PageStore). name_at v) c.end-answer.ensures.rest) (ap (λ (v : PageStore). opened v) c.end-answer.ensures.rest) (c.end-answer.ensures.failed told) c.in_default.is

pub returns-clause-ends : goal.returns-clause-ends
returns-clause-ends g c = λ told. ends_by c.end-answer.result c.args.self.now c.end-answer.new.self c.clear-2.new.self c.fault_in-self.result (g.H.Host.state c.args.host.now) (g.H.Host.state c.end-answer.new.host) c.args.slot
    (λ (name : List ℕ). record { at = place c.args.self.now.log; group = records_of c.args.self.now.writer ++ last_record name (newest (reverse c.args.self.now.pending.items)) c.args.last.now ∷ [] }) c.fault_in-self.ensures
    (ap (λ (v : PageStore). name_at v) c.end-answer.ensures.rest) (ap (λ (v : PageStore). opened v) c.end-answer.ensures.rest) c.end-answer.ensures.entries c.clear-2.ensures.writes (c.end-answer.ensures.ended told) c.in_default.is

pub returns-clause-pages : goal.returns-clause-pages
returns-clause-pages g c = λ told. looks_ended c.args.self.now c.end-answer.new.self c.clear-2.new.self c.fault_in-self.result (g.H.Host.state c.args.host.now) (g.H.Host.state c.end-answer.new.host) c.end-answer.ensures.rest c.requires.tidy
    c.end-answer.ensures.alike (c.end-answer.ensures.calm told) c.end-answer.ensures.rises
