use Rattle.std.proofs.Common.{◌≡◌, ◌∙◌, Bool, sym, subst, ap, is_ok, List, ℕ}
use Rattle.std.proofs.lemmas.Result.{err_from_is_err_and}
use Rattle.aria_log.specs.Log.{IsWriting, Synced}
use Rattle.aria_log.proofs.Zeros.{synced_ahead, unsynced}
use Rattle.aria_log.proofs.log.Log.end_run.Goals as goal

pub sync_run-requires-clause-at : goal.sync_run-requires-clause-at
sync_run-requires-clause-at g c = λ told.
    let (base, whole, parts, is, at, first) = c.requires.at told in
    let same = c.in_ok-make_ahead.ensures.same in
    (base, whole, parts, subst (λ (b : Bool). IsWriting (g.H.Host.state c.make_ahead.new.host) base whole parts b) (sym same.there) (c.in_ok-make_ahead.ensures.ahead told base whole parts is at), same.number ∙ at, same.first ∙ first)

pub returns-in_err-make_ahead-clause-synced : goal.returns-in_err-make_ahead-clause-synced
returns-in_err-make_ahead-clause-synced g c = λ told base whole parts is at first.
    let p = err_from_is_err_and c.from_residual.result c.from_residual.ensures.1 in
    unsynced (g.H.Host.state c.args.host.now) (g.H.Host.state c.make_ahead.new.host) base whole parts c.args.self.now.there (is_ok c.from_residual.result) (ap is_ok p.1) (c.in_err-make_ahead.ensures.moments told base whole parts is at)

pub returns-clause-synced : goal.returns-clause-synced
returns-clause-synced g c = λ told base whole parts is at first.
    let same = c.in_ok-make_ahead.ensures.same in
    let s0 = g.H.Host.state c.args.host.now in
    let s1 = g.H.Host.state c.make_ahead.new.host in
    let s2 = g.H.Host.state c.sync_run.new.host in
    let there : IsWriting s1 base whole parts c.make_ahead.new.self.there = subst (λ (b : Bool). IsWriting s1 base whole parts b) (sym same.there) (c.in_ok-make_ahead.ensures.ahead told base whole parts is at) in
    synced_ahead s0 s1 s2 base whole parts c.args.self.now.there (is_ok c.sync_run.result) (c.in_ok-make_ahead.ensures.moments told base whole parts is at)
    (subst (λ (b : Bool). Synced s1 s2 base whole parts b (is_ok c.sync_run.result)) same.there
    (c.sync_run.ensures.synced told base whole parts there (same.number ∙ at) (same.first ∙ first)))
