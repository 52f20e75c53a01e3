use Rattle.std.proofs.Common.{◌≡◌, false, is_ok, ℕ, [], ◌∷◌, ap, subst, refl}
use Rattle.std.proofs.lemmas.Result.{err_from_is_err_and}
use Rattle.aria_record.specs.declared.record.Record.TheVariants.{Commit}
use Rattle.aria_record.specs.Logged.{Logged}
use Rattle.aria_pager.specs.declared.page_store.PageStore.{PageStore}
use Rattle.aria_pager.specs.PageStore.{opened}
use Rattle.aria_pager.specs.Turns.{Turns, alone}
use Rattle.aria_pager.proofs.Committed.{steps_turn, steps_failed}
use Rattle.aria_pager.proofs.page_store.PageStore.put_commit.Goals as goal

pub returns-in_err-start-clause-turns : goal.returns-in_err-start-clause-turns
returns-in_err-start-clause-turns g c = λ told base start groups forced is.
    let p = err_from_is_err_and c.from_residual.result c.from_residual.ensures.1 in
    steps_failed base start groups forced (alone c.args.self.now Commit) c.args.self.now c.start.new.self (g.H.Host.state c.args.host.now) (g.H.Host.state c.start.new.host) false (is_ok c.from_residual.result)
    (ap (λ (v : PageStore). opened v) c.in_err-start.ensures.rest) (ap is_ok p.1) (c.in_err-start.ensures.steps told base start groups forced is)

pub append_commit-requires-clause-pager : goal.append_commit-requires-clause-pager
append_commit-requires-clause-pager g c = λ told.
    let p = c.requires.pager told in
    let st = c.in_ok-start.ensures.steps told p.0 p.1 p.2 p.3 p.4 in
    (p.0, p.1, p.2, st.forced', st.pager refl)

pub returns-clause-turns : goal.returns-clause-turns
returns-clause-turns g c = λ told base start groups forced is.
    let store = c.args.self.now in
    let mid = c.start.new.self in
    let s = g.H.Host.state c.args.host.now in
    let m = g.H.Host.state c.start.new.host in
    let t = g.H.Host.state c.append_commit.new.host in
    let first = c.in_ok-start.ensures.steps told base start groups forced is in
    let two = c.append_commit.ensures.turns told base start groups first.forced' (first.pager refl) in
    let same : alone mid Commit ≡ alone store Commit = ap (λ (n : ℕ). record { at = n; group = Commit ∷ [] }) c.in_ok-start.ensures.place in
    steps_turn base start groups forced (alone store Commit) store mid c.append_commit.new.self s m t (is_ok c.append_commit.result)
    (ap (λ (v : PageStore). opened v) c.in_ok-start.ensures.rest) (ap (λ (v : PageStore). opened v) c.append_commit.ensures.rest) first
    (subst (λ (h : Logged). Turns mid c.append_commit.new.self m t base start groups first.forced' h (is_ok c.append_commit.result)) same two)
