use Rattle.std.proofs.Common.{◌≡◌, ◌⊎◌, Result, Ok, subst}
use Rattle.aria_host.specs.declared.fault.Fault.{Fault}
use Rattle.aria_control.specs.declared.found.Found.{Found as ControlFound}
use Rattle.aria_control.specs.Found.{Answers, Fails}
use Rattle.std.proofs.lemmas.Result.{IfOk-weaker}
use Rattle.aria_host.proofs.Moments.{looks, narrows_then}
use Rattle.aria_pager.specs.Opening.{OfGroups, OfFolder}
use Rattle.aria_pager.proofs.Again.{if_err_more}
use Rattle.aria_pager.proofs.Opened.{finds}
use Rattle.aria_pager.proofs.Inspecting.{found_narrows, looked_all, why_all}
use Rattle.aria_pager.proofs.page_store.PageStore.look.Goals as goal

pub returns-in_ok-found-in-Kept-clause-looked : goal.returns-in_ok-found-in-Kept-clause-looked
returns-in_ok-found-in-Kept-clause-looked g c = λ told.
    let (checkpoint, base, groups, is) = c.in_ok-found-in-Kept.ensures.found told in
    let s = g.H.Host.state c.args.host.now in
    let t = g.H.Host.state c.read.new.host in
    let u = g.H.Host.state c.find.new.host in
    let v = g.H.Host.state c.look_at.new.host in
    let only = subst (λ (f : ControlFound). (other : Result ControlFound Fault) → Answers other s.folder → Fails (Ok f) ⊎ (other ≡ Ok f)) c.in-Kept.is (c.in_ok-read.ensures.only told) in
    IfOk-weaker c.look_at.result _ _ (looked_all c.in-Kept.field-0 c.in_ok-found-in-Kept.found s t u checkpoint base groups (c.in_ok-read.ensures.same told) only (c.in_ok-found-in-Kept.ensures.begins told) is v)
    (c.look_at.ensures.looked told checkpoint base groups (finds c.in_ok-found-in-Kept.found t u checkpoint base groups is))

pub returns-in_ok-found-in-Kept-clause-same : goal.returns-in_ok-found-in-Kept-clause-same
returns-in_ok-found-in-Kept-clause-same g c = λ told.
    let (checkpoint, base, groups, is) = c.in_ok-found-in-Kept.ensures.found told in
    let s = g.H.Host.state c.args.host.now in
    let t = g.H.Host.state c.read.new.host in
    let u = g.H.Host.state c.find.new.host in
    let v = g.H.Host.state c.look_at.new.host in
    let only = subst (λ (f : ControlFound). (other : Result ControlFound Fault) → Answers other s.folder → Fails (Ok f) ⊎ (other ≡ Ok f)) c.in-Kept.is (c.in_ok-read.ensures.only told) in
    narrows_then s t v (λ k f le leaves. g.met.H.Host.counts_now c.args.host.now k f told le leaves) (c.in_ok-read.ensures.same told)
    (narrows_then t u v (λ k f le leaves. g.met.H.Host.counts_now c.read.new.host k f told le leaves)
    (found_narrows c.in-Kept.field-0 c.in_ok-found-in-Kept.found s t u checkpoint base groups (c.in_ok-read.ensures.same told) only (c.in_ok-found-in-Kept.ensures.begins told) is)
    (looks u v (c.look_at.ensures.same told)))

pub returns-in_ok-found-in-Kept-clause-why : goal.returns-in_ok-found-in-Kept-clause-why
returns-in_ok-found-in-Kept-clause-why g c = λ told.
    let (checkpoint, base, groups, is) = c.in_ok-found-in-Kept.ensures.found told in
    let s = g.H.Host.state c.args.host.now in
    let t = g.H.Host.state c.read.new.host in
    let u = g.H.Host.state c.find.new.host in
    let v = g.H.Host.state c.look_at.new.host in
    let only = subst (λ (f : ControlFound). (other : Result ControlFound Fault) → Answers other s.folder → Fails (Ok f) ⊎ (other ≡ Ok f)) c.in-Kept.is (c.in_ok-read.ensures.only told) in
    if_err_more c.look_at.result (OfGroups base groups u.folder v.folder) (OfFolder s.folder v.folder) (why_all c.in-Kept.field-0 c.in_ok-found-in-Kept.found s t u checkpoint base groups (c.in_ok-read.ensures.same told) only (c.in_ok-found-in-Kept.ensures.begins told) is v.folder)
    (c.look_at.ensures.why told checkpoint base groups (finds c.in_ok-found-in-Kept.found t u checkpoint base groups is))
