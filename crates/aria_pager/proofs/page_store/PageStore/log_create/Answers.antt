use Rattle.std.proofs.Common.{◌≡◌, ◌∙◌, ◌+◌, ◌≤◌, ℕ, false, [], ◌∷◌, ◌++◌, length, is_ok, ap, sym, refl}
use Rattle.std.specs.Prelude.{IsTrue}
use Rattle.std.proofs.lemmas.Result.{err_from_is_err_and}
use Rattle.aria_host.proofs.Answered.{on_ok, on_ok_of}
use Rattle.aria_record.specs.declared.record.Record.TheVariants.{CreateTable}
use Rattle.aria_record.specs.Spelled.{group_bytes}
use Rattle.aria_record.specs.Writing.{size_of}
use Rattle.aria_record.proofs.Writers.{length-group}
use Rattle.aria_log.specs.Log.{IsLog, LogKeeps, place}
use Rattle.aria_pager.specs.declared.page_store.PageStore.{PageStore}
use Rattle.aria_pager.specs.PageStore.{name_at, sizes_at, opened}
use Rattle.aria_pager.specs.Pager.{known}
use Rattle.aria_pager.proofs.Stepping.{log_running}
use Rattle.aria_pager.proofs.Filed.{group_step}
use Rattle.aria_pager.proofs.Logging.{logs_none, file_cause}
use Rattle.aria_pager.proofs.Making.{create_of, create_follows, knows_with, known_else, at_least}
use Rattle.aria_pager.proofs.page_store.PageStore.log_create.Goals as goal

pub returns-in_err-push_create-clause-logs : goal.returns-in_err-push_create-clause-logs
returns-in_err-push_create-clause-logs g c = λ told base start groups forced is.
    let p = err_from_is_err_and c.from_residual.result c.from_residual.ensures.1 in
    logs_none c.args.self.now _ (g.H.Host.state c.args.host.now) base start groups forced (create_of c.args.name.now c.args.stored.now c.args.self.now) (is_ok c.from_residual.result) refl (ap is_ok p.1)
    (λ f b left. g.met.H.Host.only_now c.args.host.now f b told left) (g.met.H.Host.reads_now c.args.host.now told) is

pub returns-in_err-insert-clause-logs : goal.returns-in_err-insert-clause-logs
returns-in_err-insert-clause-logs g c = λ told base start groups forced is.
    let p = err_from_is_err_and c.from_residual-in_err-insert.result c.from_residual-in_err-insert.ensures.1 in
    logs_none c.args.self.now _ (g.H.Host.state c.args.host.now) base start groups forced (create_of c.args.name.now c.args.stored.now c.args.self.now) (is_ok c.from_residual-in_err-insert.result) refl (ap is_ok p.1)
    (λ f b left. g.met.H.Host.only_now c.args.host.now f b told left) (g.met.H.Host.reads_now c.args.host.now told) is

pub append_alone-requires-clause-alone : goal.append_alone-requires-clause-alone
append_alone-requires-clause-alone g c = (CreateTable c.args.name.now false c.args.stored.now 1, c.in_ok-push_create.ensures.pushed [] c.clear.ensures.writes, refl)

pub returns-clause-logs : goal.returns-clause-logs
returns-clause-logs g c = λ told base start groups forced is.
    let store = c.args.self.now in
    let name = c.args.name.now in
    let stored = c.args.stored.now in
    let now = c.append_alone.new.self in
    let s = g.H.Host.state c.args.host.now in
    let t = g.H.Host.state c.append_alone.new.host in
    let writes = c.in_ok-push_create.ensures.pushed [] c.clear.ensures.writes in
    let log = log_running store.started store.log s base groups forced c.requires.started is.log in
    let keeps : LogKeeps s t base (groups ++ create_of name stored store ∷ []) forced = c.append_alone.ensures.keeps told base groups forced (CreateTable name false stored 1) log writes refl in
    let got : IsTrue (is_ok c.append_alone.result) → IsLog now.log t base (groups ++ create_of name stored store ∷ []) (length (groups ++ create_of name stored store ∷ [])) =
    λ on. on_ok_of c.append_alone.result _ (c.append_alone.ensures.log told base groups forced (CreateTable name false stored 1) log writes refl) on in
    let later : IsTrue (is_ok c.append_alone.result) → place store.log ≤ place now.log =
    λ on. at_least (place store.log) (size_of c.push_create.new.self) (place now.log) (on_ok_of c.append_alone.result _ c.append_alone.ensures.later on) in
    group_step store now s t base start groups forced (create_of name stored store) (is_ok c.append_alone.result)
    (create_follows store now s base start groups forced name stored (ap opened c.append_alone.ensures.rest) c.requires.unknown (c.requires.absent told) is)
    (λ f b left. g.met.H.Host.only_now c.append_alone.new.host f b told left) (λ f left. g.met.H.Host.counts_now c.append_alone.new.host s.moment f told keeps.moments.later left) keeps (λ on. (got on, later on)) is

pub returns-clause-others : goal.returns-clause-others
returns-clause-others g c = λ told f off.
    let (base, start, groups, forced, is) = c.requires.pager told in
    let store = c.args.self.now in
    let s = g.H.Host.state c.args.host.now in
    let t = g.H.Host.state c.append_alone.new.host in
    let writes = c.in_ok-push_create.ensures.pushed [] c.clear.ensures.writes in
    let log = log_running store.started store.log s base groups forced c.requires.started is.log in
    let keeps : LogKeeps s t base (groups ++ create_of c.args.name.now c.args.stored.now store ∷ []) forced = c.append_alone.ensures.keeps told base groups forced (CreateTable c.args.name.now false c.args.stored.now 1) log writes refl in
    keeps.others.folder f off

pub returns-clause-knows : goal.returns-clause-knows
returns-clause-knows g c = on_ok c.append_alone.result _ (λ on q. ap (λ (v : PageStore). known v q) c.append_alone.ensures.rest ∙ knows_with c.args.name.now c.args.n c.args.self.now.tables c.insert.new.self c.in_ok-insert.ensures.updates q)

pub returns-clause-tidy : goal.returns-clause-tidy
returns-clause-tidy g c = λ is. record {
  known = known_else c.args.self.now c.append_alone.new.self c.args.name.now c.args.n (ap name_at c.append_alone.ensures.rest) c.requires.unknown
      (λ q. ap (λ (v : PageStore). known v q) c.append_alone.ensures.rest ∙ knows_with c.args.name.now c.args.n c.args.self.now.tables c.insert.new.self c.in_ok-insert.ensures.updates q) is;
  few = λ m part sizes at. is.few m part sizes (ap (λ (v : PageStore). sizes_at v m) (sym c.append_alone.ensures.rest) ∙ at);
}

pub returns-clause-cause : goal.returns-clause-cause
returns-clause-cause g c =
    let store = c.args.self.now in
    let name = c.args.name.now in
    let stored = c.args.stored.now in
    let writer = c.push_create.new.self in
    let writes = c.in_ok-push_create.ensures.pushed [] c.clear.ensures.writes in
    let end : place store.log + size_of writer ≡ place store.log + length (group_bytes (CreateTable name false stored 1 ∷ [])) = ap (λ (n : ℕ). place store.log + n) (sym (length-group writer (CreateTable name false stored 1 ∷ []) writes)) in
    file_cause (place store.log + size_of writer) (place store.log + length (group_bytes (CreateTable name false stored 1 ∷ []))) store.log c.append_alone.new.self.log c.args.host.now c.append_alone.new.host (g.H.Host.state c.args.host.now) (g.H.Host.state c.append_alone.new.host) c.append_alone.result end c.append_alone.ensures.cause
