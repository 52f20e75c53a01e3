use Rattle.std.proofs.Common.{◌≡◌, ◌∙◌, ◌+◌, ◌≤◌, ℕ, [], ◌∷◌, ◌++◌, length, is_ok, ap, sym, refl, subst, arith}
use Rattle.std.specs.Prelude.{IsTrue}
use Rattle.std.proofs.lemmas.Result.{err_from_is_err_and}
use Rattle.aria_host.proofs.Answered.{on_ok_of}
use Rattle.aria_record.specs.declared.record.Record.TheVariants.{DropTable}
use Rattle.aria_record.specs.Spelled.{group_bytes}
use Rattle.aria_record.specs.Writing.{Writes, size_of}
use Rattle.aria_record.proofs.Writers.{length-group}
use Rattle.aria_log.specs.Log.{IsLog, LogKeeps, place}
use Rattle.aria_pager.specs.declared.page_store.PageStore.{PageStore}
use Rattle.aria_pager.specs.Filing.{Forgets}
use Rattle.aria_pager.proofs.Stepping.{log_running}
use Rattle.aria_pager.proofs.Filed.{group_step}
use Rattle.aria_pager.proofs.Forgetting.{forgets_on, fewer_forgotten, tidy_forgotten}
use Rattle.aria_pager.proofs.Logging.{logs_none, drop_of, drop_follows, file_cause}
use Rattle.aria_pager.proofs.page_store.PageStore.log_drop.Goals as goal

pub returns-in_err-push_drop-clause-logs : goal.returns-in_err-push_drop-clause-logs
returns-in_err-push_drop-clause-logs g c = λ told base start groups forced is.
    let p = err_from_is_err_and c.from_residual.result c.from_residual.ensures.1 in
    logs_none c.args.self.now _ (g.H.Host.state c.args.host.now) base start groups forced (drop_of c.args.name.now c.args.self.now) (is_ok c.from_residual.result) refl (ap is_ok p.1)
    (λ f b left. g.met.H.Host.only_now c.args.host.now f b told left) (g.met.H.Host.reads_now c.args.host.now told) is

pub append_alone-requires-clause-alone : goal.append_alone-requires-clause-alone
append_alone-requires-clause-alone g c =
    (DropTable c.args.name.now, subst (λ (v : PageStore). Writes v.writer (DropTable c.args.name.now ∷ [])) (sym c.forget.ensures.rest) (c.in_ok-push_drop.ensures.pushed [] c.clear.ensures.writes), refl)

at_least : (a b n : ℕ) → a + b ≤ n → a ≤ n
at_least a b n le = omega (arith, le)

pub returns-clause-logs : goal.returns-clause-logs
returns-clause-logs g c = λ told base start groups forced is.
    let store = c.args.self.now in
    let name = c.args.name.now in
    let now = c.append_alone.new.self in
    let s = g.H.Host.state c.args.host.now in
    let t = g.H.Host.state c.append_alone.new.host in
    let writes = subst (λ (v : PageStore). Writes v.writer (DropTable name ∷ [])) (sym c.forget.ensures.rest) (c.in_ok-push_drop.ensures.pushed [] c.clear.ensures.writes) in
    let log = subst (λ (v : PageStore). IsLog v.log s base groups forced) (sym c.forget.ensures.rest) (log_running store.started store.log s base groups forced c.requires.started is.log) in
    let keeps : LogKeeps s t base (groups ++ drop_of name store ∷ []) forced =
    subst (λ (v : PageStore). LogKeeps s t base (groups ++ drop_of name v ∷ []) forced) c.forget.ensures.rest (c.append_alone.ensures.keeps told base groups forced (DropTable name) log writes refl) in
    let got : IsTrue (is_ok c.append_alone.result) → IsLog now.log t base (groups ++ drop_of name store ∷ []) (length (groups ++ drop_of name store ∷ [])) =
    λ on. subst (λ (v : PageStore). IsLog now.log t base (groups ++ drop_of name v ∷ []) (length (groups ++ drop_of name v ∷ []))) c.forget.ensures.rest
    (on_ok_of c.append_alone.result _ (c.append_alone.ensures.log told base groups forced (DropTable name) log writes refl) on) in
    let later : IsTrue (is_ok c.append_alone.result) → place store.log ≤ place now.log =
    λ on. at_least (place store.log) (size_of c.forget.new.self.writer) (place now.log) (subst (λ (v : PageStore). place v.log + size_of c.forget.new.self.writer ≤ place now.log) c.forget.ensures.rest (on_ok_of c.append_alone.result _ c.append_alone.ensures.later on)) in
    let forgets : Forgets name store now = forgets_on name _ c.forget.new.self store now refl refl refl (ap (λ (v : PageStore). v.frames) c.append_alone.ensures.rest) (ap (λ (v : PageStore). v.slots) c.append_alone.ensures.rest) (ap (λ (v : PageStore). v.tables) c.append_alone.ensures.rest) c.forget.ensures.forgets in
    group_step store now s t base start groups forced (drop_of name store) (is_ok c.append_alone.result) (drop_follows store now s base start groups forced name forgets is)
    (λ f b left. g.met.H.Host.only_now c.append_alone.new.host f b told left) (λ f left. g.met.H.Host.counts_now c.append_alone.new.host s.moment f told keeps.moments.later left) keeps (λ on. (got on, later on)) is

pub returns-clause-fewer : goal.returns-clause-fewer
returns-clause-fewer g c =
    let store = c.args.self.now in
    let name = c.args.name.now in
    let now = c.append_alone.new.self in
    fewer_forgotten name store now (forgets_on name _ c.forget.new.self store now refl refl refl (ap (λ (v : PageStore). v.frames) c.append_alone.ensures.rest) (ap (λ (v : PageStore). v.slots) c.append_alone.ensures.rest) (ap (λ (v : PageStore). v.tables) c.append_alone.ensures.rest) c.forget.ensures.forgets)

pub returns-clause-tidy : goal.returns-clause-tidy
returns-clause-tidy g c =
    let store = c.args.self.now in
    let name = c.args.name.now in
    let now = c.append_alone.new.self in
    tidy_forgotten name store now (forgets_on name _ c.forget.new.self store now refl refl refl (ap (λ (v : PageStore). v.frames) c.append_alone.ensures.rest) (ap (λ (v : PageStore). v.slots) c.append_alone.ensures.rest) (ap (λ (v : PageStore). v.tables) c.append_alone.ensures.rest) c.forget.ensures.forgets)

pub returns-clause-cause : goal.returns-clause-cause
returns-clause-cause g c =
    let store = c.args.self.now in
    let name = c.args.name.now in
    let f = c.forget.new.self in
    let writes = subst (λ (v : PageStore). Writes v.writer (DropTable name ∷ [])) (sym c.forget.ensures.rest) (c.in_ok-push_drop.ensures.pushed [] c.clear.ensures.writes) in
    let end : place f.log + size_of f.writer ≡ place store.log + length (group_bytes (DropTable name ∷ [])) =
    ap (λ (v : PageStore). place v.log + size_of f.writer) c.forget.ensures.rest ∙ ap (λ (n : ℕ). place store.log + n) (sym (length-group f.writer (DropTable name ∷ []) writes)) in
    file_cause (place f.log + size_of f.writer) (place store.log + length (group_bytes (DropTable name ∷ []))) f.log c.append_alone.new.self.log c.args.host.now c.append_alone.new.host (g.H.Host.state c.args.host.now) (g.H.Host.state c.append_alone.new.host) c.append_alone.result end c.append_alone.ensures.cause
