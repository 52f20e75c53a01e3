use Rattle.aria_log.specs.Log.{place}
use Rattle.aria_pager.proofs.Stood.{group_stands, step_group, step_rest, step_end, untold_cause}
use Rattle.aria_pager.proofs.reading.group_in.Goals as goal

pub next-requires-clause-stands : goal.next-requires-clause-stands
next-requires-clause-stands g c = λ told.
    let p = c.requires.there told in
    let s = group_stands p.0 c.args.log.now (g.H.Host.state c.args.host.now) p.1 p.2 p.3 c.args.at p.4 p.5 p.6 in
    (p.4.at, s.before, _, s.stands, p.6.is)

pub returns-in-Group-clause-group : goal.returns-in-Group-clause-group
returns-in-Group-clause-group g c = λ told started base groups forced logged is there.
    let s = group_stands started c.args.log.now (g.H.Host.state c.args.host.now) base groups forced c.args.at logged is there in
    step_group (place c.args.log.now) logged s.more c.in-Group.at c.in-Group.after c.in-Group.group c.in_ok-group.field-0 c.in-Group.is (c.in_ok-group.ensures.step told logged.at s.before _ s.stands there.is)

pub returns-in-Rest-clause-cause : goal.returns-in-Rest-clause-cause
returns-in-Rest-clause-cause g c = untold_cause g.H.Host.tells c.args.log.now.number (g.H.Host.state c.args.host.now) (g.H.Host.state c.next.new.host) c.args.at c.log_damaged.result c.in_ok-group.field-0 c.log_damaged.ensures (λ told.
    let p = c.requires.there told in
    let s = group_stands p.0 c.args.log.now (g.H.Host.state c.args.host.now) p.1 p.2 p.3 c.args.at p.4 p.5 p.6 in
    step_rest (place c.args.log.now) p.4 s.more c.in-Rest.at c.in-Rest.after c.in-Rest.bytes c.in_ok-group.field-0 c.in-Rest.is (c.in_ok-group.ensures.step told p.4.at s.before _ s.stands p.6.is)) c.in_ok-group.ensures.cause

pub returns-in-End-clause-cause : goal.returns-in-End-clause-cause
returns-in-End-clause-cause g c = untold_cause g.H.Host.tells c.args.log.now.number (g.H.Host.state c.args.host.now) (g.H.Host.state c.next.new.host) c.args.at c.log_damaged-in-End.result c.in_ok-group.field-0 c.log_damaged-in-End.ensures (λ told.
    let p = c.requires.there told in
    let s = group_stands p.0 c.args.log.now (g.H.Host.state c.args.host.now) p.1 p.2 p.3 c.args.at p.4 p.5 p.6 in
    step_end (place c.args.log.now) p.4 s.more c.in_ok-group.field-0 c.in-End.is (c.in_ok-group.ensures.step told p.4.at s.before _ s.stands p.6.is)) c.in_ok-group.ensures.cause
