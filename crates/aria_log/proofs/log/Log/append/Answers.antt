use Rattle.aria_log.specs.Groups.{groups_bytes}
use Rattle.aria_log.proofs.Logs.{appended, append_keeps, group_some, idle_keeps}
use Rattle.aria_log.proofs.log.Log.append.Goals as goal

pub returns-then-group-place-clause-moments : goal.returns-then-group-place-clause-moments
returns-then-group-place-clause-moments g c = λ told base groups forced is.
    idle_keeps c.args.self.now (g.H.Host.state c.args.host.now) base groups forced (λ f b left. g.met.H.Host.only_now c.args.host.now f b told left) is

pub add-requires-clause-some : goal.add-requires-clause-some
add-requires-clause-some g c = let (records, is, spelled) = c.requires.group in group_some records c.args.group.now spelled

pub add-requires-clause-at : goal.add-requires-clause-at
add-requires-clause-at g c = λ told.
    let (base, groups, forced, is) = c.requires.log told in
    (base, is.whole, groups_bytes is.fresh, is.at)

pub returns-in_err-add-clause-moments : goal.returns-in_err-add-clause-moments
returns-in_err-add-clause-moments g c = λ told base groups forced is.
    let (records, fits, spelled) = c.requires.group in
    append_keeps c.args.self.now (g.H.Host.state c.args.host.now) (g.H.Host.state c.args.host.now) (g.H.Host.state c.add.new.host) base groups forced records c.args.group.now is fits spelled
    (c.in_err-add.ensures.moments told base is.whole (groups_bytes is.fresh) is.at)

pub returns-clause-appended : goal.returns-clause-appended
returns-clause-appended g c = λ told base groups forced is records fits spelled.
    appended c.args.self.now c.add.new.self (g.H.Host.state c.args.host.now) (g.H.Host.state c.add.new.host) base groups forced records c.args.group.now is fits spelled
    (c.in_ok-add.ensures.added told base is.whole (groups_bytes is.fresh) is.at) c.in_ok-add.ensures.ok.1

pub returns-clause-moments : goal.returns-clause-moments
returns-clause-moments g c = λ told base groups forced is.
    let (records, fits, spelled) = c.requires.group in
    append_keeps c.args.self.now (g.H.Host.state c.args.host.now) (g.H.Host.state c.args.host.now) (g.H.Host.state c.add.new.host) base groups forced records c.args.group.now is fits spelled
    (c.in_ok-add.ensures.moments told base is.whole (groups_bytes is.fresh) is.at)
