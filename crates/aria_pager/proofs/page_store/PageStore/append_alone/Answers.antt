use Rattle.std.proofs.Common.{◌≡◌, ◌∙◌, ◌+◌, ◌≤◌, ℕ, [], ◌∷◌, ◌++◌, length, ap, subst}
use Rattle.std.proofs.lemmas.Result.{err_from_is_err_and}
use Rattle.aria_record.specs.Writing.{size_of}
use Rattle.aria_host.proofs.Answered.{on_ok}
use Rattle.aria_log.specs.Log.{place}
use Rattle.aria_pager.specs.Turns.{alone}
use Rattle.aria_pager.proofs.Alone.{alone_group, keeps_more, keeps_both, cause_err, cause_forced}
use Rattle.aria_pager.proofs.page_store.PageStore.append_alone.Goals as goal

pub append-requires-clause-group : goal.append-requires-clause-group
append-requires-clause-group g c =
    let (r, writes, is) = c.requires.alone in
    (r ∷ [], c.finish-group.ensures.group (r ∷ []) writes (alone_group (r ∷ []) is), c.finish-group.ensures.spelled (r ∷ []) writes (alone_group (r ∷ []) is))

pub returns-in_err-append-clause-keeps : goal.returns-in_err-append-clause-keeps
returns-in_err-append-clause-keeps g c = λ told base groups forced r is writes on.
    keeps_more (g.H.Host.state c.args.host.now) (g.H.Host.state c.append.new.host) base groups (alone c.args.self.now r ∷ []) forced (c.in_err-append.ensures.moments told base groups forced is)

pub force-requires : goal.force-requires
force-requires g c = λ told.
    let (base, groups, forced, is) = c.requires.log told in
    let (r, writes, on) = c.requires.alone in
    let fits = c.finish-group.ensures.group (r ∷ []) writes (alone_group (r ∷ []) on) in
    (base, groups ++ alone c.args.self.now r ∷ [], forced, c.in_ok-append.ensures.appended told base groups forced is (r ∷ []) fits (c.finish-group.ensures.spelled (r ∷ []) writes (alone_group (r ∷ []) on)))

pub returns-clause-log : goal.returns-clause-log
returns-clause-log g c = λ told base groups forced r is writes on.
    let fits = c.finish-group.ensures.group (r ∷ []) writes (alone_group (r ∷ []) on) in
    c.force.ensures.forced told base (groups ++ alone c.args.self.now r ∷ []) forced
    (c.in_ok-append.ensures.appended told base groups forced is (r ∷ []) fits (c.finish-group.ensures.spelled (r ∷ []) writes (alone_group (r ∷ []) on)))

pub returns-clause-keeps : goal.returns-clause-keeps
returns-clause-keeps g c = λ told base groups forced r is writes on.
    let fits = c.finish-group.ensures.group (r ∷ []) writes (alone_group (r ∷ []) on) in
    keeps_both (g.H.Host.state c.args.host.now) (g.H.Host.state c.append.new.host) (g.H.Host.state c.force.new.host) base groups (alone c.args.self.now r ∷ []) forced (c.in_ok-append.ensures.moments told base groups forced is)
    (c.force.ensures.moments told base (groups ++ alone c.args.self.now r ∷ []) forced
    (c.in_ok-append.ensures.appended told base groups forced is (r ∷ []) fits (c.finish-group.ensures.spelled (r ∷ []) writes (alone_group (r ∷ []) on))))

pub returns-in_err-append-clause-cause : goal.returns-in_err-append-clause-cause
returns-in_err-append-clause-cause g c =
    let p = err_from_is_err_and c.from_residual.result c.from_residual.ensures.1 in
    let (r, writes, on) = c.requires.alone in
    let size : length c.finish-group.result.now ≡ size_of c.args.self.now.writer = c.finish-group.ensures.size (r ∷ []) writes (alone_group (r ∷ []) on) in
    cause_err (place c.args.self.now.log + length c.finish-group.result.now) (place c.args.self.now.log + size_of c.args.self.now.writer) c.args.self.now.log c.append.new.self c.args.host.now c.append.new.host
    (g.H.Host.state c.args.host.now) (g.H.Host.state c.append.new.host) _ p.0 c.from_residual.result (ap (λ (n : ℕ). place c.args.self.now.log + n) size) p.1 p.2 c.in_err-append.ensures.cause

pub returns-clause-later : goal.returns-clause-later
returns-clause-later g c =
    let (r, writes, on) = c.requires.alone in
    let size : length c.finish-group.result.now ≡ size_of c.args.self.now.writer = c.finish-group.ensures.size (r ∷ []) writes (alone_group (r ∷ []) on) in
    let placed : place c.append.new.self ≡ place c.args.self.now.log + length c.finish-group.result.now = c.in_ok-append.ensures.place in
    on_ok c.force.result _ (λ done.
    let more = c.force.ensures.rises in
    let placed_by : place c.append.new.self ≡ place c.args.self.now.log + size_of c.args.self.now.writer = placed ∙ ap (λ (n : ℕ). place c.args.self.now.log + n) size in
    subst (λ (n : ℕ). n ≤ place c.force.new.self) placed_by more)

pub returns-clause-cause : goal.returns-clause-cause
returns-clause-cause g c =
    let (r, writes, on) = c.requires.alone in
    let size : length c.finish-group.result.now ≡ size_of c.args.self.now.writer = c.finish-group.ensures.size (r ∷ []) writes (alone_group (r ∷ []) on) in
    cause_forced (place c.args.self.now.log + length c.finish-group.result.now) (place c.args.self.now.log + size_of c.args.self.now.writer) c.args.self.now.log c.append.new.self c.force.new.self c.args.host.now c.append.new.host c.force.new.host
    (g.H.Host.state c.args.host.now) (g.H.Host.state c.append.new.host) (g.H.Host.state c.force.new.host) c.in_ok-append.field-0 c.force.result (ap (λ (n : ℕ). place c.args.self.now.log + n) size) c.in_ok-append.ensures.cause c.force.ensures.cause
