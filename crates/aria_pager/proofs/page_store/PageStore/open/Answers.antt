use Rattle.std.proofs.Common.{inl, inr, ⊎_elim}
use Rattle.aria_pager.specs.Found.{IsFindFault}
use Rattle.aria_pager.specs.Opening.{IsOpenFault, IsReopenFault, OfOpen, OfReopened}
use Rattle.aria_pager.proofs.Again.{if_err_at, if_err_more}
use Rattle.std.proofs.lemmas.Result.{IfOk-weaker, err_from_is_err_and}
use Rattle.aria_pager.proofs.Opened.{finds, opening_found, opening_all, opened_all, of_own, cause_behind, cause_passed}
use Rattle.aria_pager.proofs.page_store.PageStore.open.Goals as goal

pub returns-in_err-found-clause-moments : goal.returns-in_err-found-clause-moments
returns-in_err-found-clause-moments g c = λ told.
    opening_found (g.H.Host.state c.args.host.now) (g.H.Host.state c.find.new.host) (λ f b left. g.met.H.Host.only_now c.args.host.now f b told left) (c.in_err-found.ensures.begins told)

pub returns-in_err-found-clause-why : goal.returns-in_err-found-clause-why
returns-in_err-found-clause-why g c = λ told.
    let e = err_from_is_err_and c.from_residual.result c.from_residual.ensures.1 in
    if_err_at c.from_residual.result (OfOpen (g.H.Host.state c.args.host.now).folder (g.H.Host.state c.find.new.host).folder) e.0 c.in_err-found.field-0.0 e.1 e.2 (inl (inl (c.in_err-found.ensures.refused told)))

pub returns-in_err-found-clause-cause : goal.returns-in_err-found-clause-cause
returns-in_err-found-clause-cause g c =
    let e = err_from_is_err_and c.from_residual.result c.from_residual.ensures.1 in
    cause_passed IsFindFault (IsOpenFault g.H.Host.tells) (g.H.Host.state c.args.host.now) (g.H.Host.state c.find.new.host) c.in_err-found.field-0.0 e.0 c.from_residual.result e.1 e.2 (λ f is. inl (inl is)) c.in_err-found.ensures.cause

pub returns-clause-pager : goal.returns-clause-pager
returns-clause-pager g c = λ told.
    let (checkpoint, base, groups, is) = c.in_ok-found.ensures.found told in
    let s = g.H.Host.state c.args.host.now in
    let t = g.H.Host.state c.find.new.host in
    let u = g.H.Host.state c.open_checked.new.host in
    IfOk-weaker c.open_checked.result _ _ (opened_all c.in_ok-found.found s t u checkpoint base groups is (c.in_ok-found.ensures.begins told))
    (c.open_checked.ensures.pager told checkpoint base groups (finds c.in_ok-found.found s t checkpoint base groups is))

pub returns-clause-moments : goal.returns-clause-moments
returns-clause-moments g c = λ told.
    let (checkpoint, base, groups, is) = c.in_ok-found.ensures.found told in
    let s = g.H.Host.state c.args.host.now in
    let t = g.H.Host.state c.find.new.host in
    let u = g.H.Host.state c.open_checked.new.host in
    opening_all c.in_ok-found.found s t u checkpoint base groups is (c.in_ok-found.ensures.begins told) (λ f b left. g.met.H.Host.only_now c.args.host.now f b told left)
    (c.open_checked.ensures.keeps told checkpoint base groups (finds c.in_ok-found.found s t checkpoint base groups is))

pub returns-clause-why : goal.returns-clause-why
returns-clause-why g c = λ told.
    let (checkpoint, base, groups, is) = c.in_ok-found.ensures.found told in
    let t = g.H.Host.state c.find.new.host in
    let u = g.H.Host.state c.open_checked.new.host in
    let d = (g.H.Host.state c.args.host.now).folder in
    if_err_more c.open_checked.result (OfReopened base groups t.folder u.folder) (OfOpen d u.folder) (of_own checkpoint base groups d t.folder u.folder is.own is.others)
    (c.open_checked.ensures.why told checkpoint base groups (finds c.in_ok-found.found (g.H.Host.state c.args.host.now) t checkpoint base groups is))

pub returns-clause-cleared : goal.returns-clause-cleared
returns-clause-cleared g c = λ told.
    let (checkpoint, base, groups, is) = c.in_ok-found.ensures.found told in
    c.open_checked.ensures.cleared told checkpoint base groups (finds c.in_ok-found.found (g.H.Host.state c.args.host.now) (g.H.Host.state c.find.new.host) checkpoint base groups is)

pub returns-clause-cause : goal.returns-clause-cause
returns-clause-cause g c =
    let first = c.in_ok-found.ensures.cause in
    cause_behind (IsReopenFault g.H.Host.tells) (IsOpenFault g.H.Host.tells) (g.H.Host.state c.args.host.now) (g.H.Host.state c.find.new.host) (g.H.Host.state c.open_checked.new.host) c.open_checked.result
    (λ f. ⊎_elim (λ late. inl (inr late)) (λ foreign. inr foreign)) first.calm first.tell c.open_checked.ensures.cause
