use Rattle.std.proofs.Common.{◌≡◌, ◌∙◌, ◌∷◌, [], ◌++◌, ℕ, true, false, is_ok, sym, List, ap, refl, subst}
use Rattle.std.proofs.lemmas.Result.{err_from_is_err_and}
use Rattle.aria_host.proofs.Answered.{on_ok}
use Rattle.aria_record.specs.Logged.{Logged}
use Rattle.aria_record.specs.Writing.{records_of}
use Rattle.aria_log.specs.Log.{place}
use Rattle.aria_pager.specs.declared.page_store.PageStore.{PageStore}
use Rattle.aria_pager.specs.PageStore.{name_at, opened}
use Rattle.aria_pager.specs.Steps.{with_start}
use Rattle.aria_pager.specs.Filing.{FewerSlots, AreTidy, without_name, Logs, TurnsAll}
use Rattle.aria_pager.proofs.Forgetting.{opened_fewer}
use Rattle.aria_pager.proofs.Logging.{drop_of}
use Rattle.aria_pager.proofs.Dropping.{turns_none, turns_failed, turns_files, drop_done, drop_dropped, drop_closed, slots_done}
use Rattle.aria_pager.proofs.page_store.PageStore.drop_known.Goals as goal

-- the log alone was started
fewer_started : (a b c : PageStore) → b ≡ with_start a b.started b.log → FewerSlots b c → FewerSlots a c
fewer_started a b c rest fewer = let is = subst (λ (v : PageStore). FewerSlots v c) rest fewer in record { names = is.names; sizes = is.sizes }

group_same : (a b : PageStore) (name : List ℕ) → place b.log ≡ place a.log → drop_of name b ≡ drop_of name a
group_same a b name same = λ i. drop_at (same i)
  where
    drop_at : ℕ → Logged
    drop_at n = record { at = n; group = (drop_of name a).group }

pub returns-in_err-start-clause-turns : goal.returns-in_err-start-clause-turns
returns-in_err-start-clause-turns g c = λ told base start groups forced is.
    let p = err_from_is_err_and c.from_residual.result c.from_residual.ensures.1 in
    turns_none c.args.self.now c.start.new.self (g.H.Host.state c.args.host.now) (g.H.Host.state c.start.new.host) base start groups forced (drop_of c.args.name.now c.args.self.now) false (is_ok c.from_residual.result)
    (ap opened c.in_err-start.ensures.rest) (ap is_ok p.1) (c.in_err-start.ensures.steps told base start groups forced is)

pub log_drop-requires-clause-pager : goal.log_drop-requires-clause-pager
log_drop-requires-clause-pager g c = λ told.
    let p = c.requires.pager told in
    let st = c.in_ok-start.ensures.steps told p.0 p.1 p.2 p.3 p.4 in
    (p.0, p.1, p.2, st.forced', st.pager refl)

pub returns-in_err-log_drop-clause-turns : goal.returns-in_err-log_drop-clause-turns
returns-in_err-log_drop-clause-turns g c = λ told base start groups forced is.
    let a = c.args.self.now in
    let b = c.start.new.self in
    let d = c.log_drop.new.self in
    let s = g.H.Host.state c.args.host.now in
    let t = g.H.Host.state c.start.new.host in
    let u = g.H.Host.state c.log_drop.new.host in
    let done = is_ok c.from_residual-in_err-log_drop.result in
    let p = err_from_is_err_and c.from_residual-in_err-log_drop.result c.from_residual-in_err-log_drop.ensures.1 in
    let first = c.in_ok-start.ensures.steps told base start groups forced is in
    let logs = c.in_err-log_drop.ensures.logs told base start groups first.forced' (first.pager refl) in
    subst (λ (x : Logged). TurnsAll a d s u base start groups forced x done) (group_same a b c.args.name.now c.in_ok-start.ensures.place)
    (turns_failed a b d s t u base start groups forced (drop_of c.args.name.now b) false done (opened_fewer a d (fewer_started a b d c.in_ok-start.ensures.rest c.in_err-log_drop.ensures.fewer)) (ap is_ok p.1) first logs)

pub returns-in_err-log_drop-clause-fewer : goal.returns-in_err-log_drop-clause-fewer
returns-in_err-log_drop-clause-fewer g c = fewer_started c.args.self.now c.start.new.self c.log_drop.new.self c.in_ok-start.ensures.rest c.in_err-log_drop.ensures.fewer

pub returns-clause-turns : goal.returns-clause-turns
returns-clause-turns g c = λ told base start groups forced is.
    let name = c.args.name.now in
    let a = c.args.self.now in
    let b = c.start.new.self in
    let d = c.log_drop.new.self in
    let s = g.H.Host.state c.args.host.now in
    let t = g.H.Host.state c.start.new.host in
    let u = g.H.Host.state c.log_drop.new.host in
    let v = g.H.Host.state c.remove_files.new.host in
    let done = is_ok c.remove_files.result in
    let first = c.in_ok-start.ensures.steps told base start groups forced is in
    let pager = first.pager refl in
    let forgets = c.in_ok-log_drop.ensures.forgets in
    let logs : Logs b d t u base start groups first.forced' (drop_of name b) true = c.in_ok-log_drop.ensures.logs told base start groups first.forced' pager in
    let files = c.remove_files.ensures.steps told base start (groups ++ drop_of name b ∷ []) (logs.logged refl) (drop_dropped b groups name) (drop_closed b d t base start groups first.forced' name pager forgets) in
    let idle : records_of b.writer ≡ [] = ap (λ (w : PageStore). records_of w.writer) c.in_ok-start.ensures.rest ∙ c.requires.idle told in
    let started : d.started ≡ true = ap (λ (w : PageStore). w.started) c.in_ok-log_drop.ensures.rest ∙ c.in_ok-start.ensures.started in
    subst (λ (x : Logged). TurnsAll a d s v base start groups forced x done) (group_same a b name c.in_ok-start.ensures.place)
    (turns_files a b d s t u v base start groups forced (drop_of name b) done (opened_fewer a d (fewer_started a b d c.in_ok-start.ensures.rest c.in_ok-log_drop.ensures.fewer)) first logs files
    (λ on. drop_done b d t base start groups first.forced' name pager forgets v idle started c.in_ok-log_drop.ensures.empty (ap (λ (w : PageStore). w.pending) c.in_ok-log_drop.ensures.rest) c.in_ok-log_drop.ensures.later
    (λ other q off. c.remove_files.ensures.others told other q off ∙ logs.files other q) (files.logged on)))

pub returns-clause-slots : goal.returns-clause-slots
returns-clause-slots g c = λ told. on_ok c.remove_files.result _ (λ on m.
    let p = c.requires.pager told in
    let st = c.in_ok-start.ensures.steps told p.0 p.1 p.2 p.3 p.4 in
    slots_done c.start.new.self c.log_drop.new.self (g.H.Host.state c.start.new.host) p.0 p.1 p.2 st.forced' c.args.name.now (st.pager refl) c.in_ok-log_drop.ensures.forgets m
    ∙ ap (λ (w : PageStore). without_name c.args.name.now (name_at w) m) c.in_ok-start.ensures.rest)

pub returns-clause-fewer : goal.returns-clause-fewer
returns-clause-fewer g c = fewer_started c.args.self.now c.start.new.self c.log_drop.new.self c.in_ok-start.ensures.rest c.in_ok-log_drop.ensures.fewer

-- the log alone was started
tidy_started : (a b : PageStore) → b ≡ with_start a b.started b.log → AreTidy a → AreTidy b
tidy_started a b rest is = subst AreTidy (sym rest) (record { known = is.known; few = is.few })

pub returns-in_err-log_drop-clause-tidy : goal.returns-in_err-log_drop-clause-tidy
returns-in_err-log_drop-clause-tidy g c = λ is. c.in_err-log_drop.ensures.tidy (tidy_started c.args.self.now c.start.new.self c.in_ok-start.ensures.rest is)

pub returns-clause-tidy : goal.returns-clause-tidy
returns-clause-tidy g c = λ is. c.in_ok-log_drop.ensures.tidy (tidy_started c.args.self.now c.start.new.self c.in_ok-start.ensures.rest is)
