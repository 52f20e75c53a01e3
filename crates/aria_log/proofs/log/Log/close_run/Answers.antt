use Rattle.std.proofs.Common.{◌∙◌, ◌≤◌, length, refl, sym, arith}
use Rattle.aria_log.proofs.Logs.{closed, closed_keeps, unwritten_keeps}
use Rattle.aria_log.proofs.Writing.{behind_push}
use Rattle.aria_log.proofs.log.Log.close_run.Goals as goal

pub write-requires-clause-at : goal.write-requires-clause-at
write-requires-clause-at g c = λ told.
    let (base, groups, forced, is) = c.requires.log told in
    (base, is.whole, is.at.parts, is.at.writing, is.at.fills.number_is)

pub returns-in_err-write-clause-moments : goal.returns-in_err-write-clause-moments
returns-in_err-write-clause-moments g c = λ told base groups forced is.
    let some : 1 ≤ length is.at.held = omega (arith, is.at.fills.used_is, c.requires.used) in
    unwritten_keeps c.args.self.now c.write.new.self (g.H.Host.state c.args.host.now) (g.H.Host.state c.write.new.host) base groups forced _ is
    (c.in_err-write.ensures.wrote told base is.whole is.at.parts is.at.held is.at.writing is.at.full is.at.first is.at.fills some)

pub end_run-requires-clause-at : goal.end_run-requires-clause-at
end_run-requires-clause-at g c = λ told.
    let (base, groups, forced, is) = c.requires.log told in
    let some : 1 ≤ length is.at.held = omega (arith, is.at.fills.used_is, c.requires.used) in
    let wrote = c.in_ok-write.ensures.wrote told base is.whole is.at.parts is.at.held is.at.writing is.at.full is.at.first is.at.fills some in
    (base, is.whole, _, wrote.writing refl, (wrote.fills refl).number_is ∙ sym (behind_push base is.whole is.at.parts is.at.held), c.in_ok-write.ensures.first ∙ is.at.first)

pub returns-in_err-end_run-clause-moments : goal.returns-in_err-end_run-clause-moments
returns-in_err-end_run-clause-moments g c = λ told base groups forced is.
    let some : 1 ≤ length is.at.held = omega (arith, is.at.fills.used_is, c.requires.used) in
    let wrote = c.in_ok-write.ensures.wrote told base is.whole is.at.parts is.at.held is.at.writing is.at.full is.at.first is.at.fills some in
    closed_keeps c.args.self.now c.write.new.self (g.H.Host.state c.args.host.now) (g.H.Host.state c.write.new.host) (g.H.Host.state c.end_run.new.host) base groups forced _ is wrote
    (c.in_err-end_run.ensures.synced told base is.whole _ (wrote.writing refl) ((wrote.fills refl).number_is ∙ sym (behind_push base is.whole is.at.parts is.at.held)) (c.in_ok-write.ensures.first ∙ is.at.first))

pub returns-clause-moments : goal.returns-clause-moments
returns-clause-moments g c = λ told base groups forced is.
    let some : 1 ≤ length is.at.held = omega (arith, is.at.fills.used_is, c.requires.used) in
    let wrote = c.in_ok-write.ensures.wrote told base is.whole is.at.parts is.at.held is.at.writing is.at.full is.at.first is.at.fills some in
    closed_keeps c.args.self.now c.write.new.self (g.H.Host.state c.args.host.now) (g.H.Host.state c.write.new.host) (g.H.Host.state c.end_run.new.host) base groups forced _ is wrote
    (c.in_ok-end_run.ensures.synced told base is.whole _ (wrote.writing refl) ((wrote.fills refl).number_is ∙ sym (behind_push base is.whole is.at.parts is.at.held)) (c.in_ok-write.ensures.first ∙ is.at.first))

pub returns-clause-forced : goal.returns-clause-forced
returns-clause-forced g c = λ told base groups forced is.
    let some : 1 ≤ length is.at.held = omega (arith, is.at.fills.used_is, c.requires.used) in
    let wrote = c.in_ok-write.ensures.wrote told base is.whole is.at.parts is.at.held is.at.writing is.at.full is.at.first is.at.fills some in
    closed c.args.self.now c.write.new.self _ (g.H.Host.state c.args.host.now) (g.H.Host.state c.write.new.host) (g.H.Host.state c.end_run.new.host) base groups forced is some wrote
    (c.in_ok-end_run.ensures.synced told base is.whole _ (wrote.writing refl) ((wrote.fills refl).number_is ∙ sym (behind_push base is.whole is.at.parts is.at.held)) (c.in_ok-write.ensures.first ∙ is.at.first))
    c.in_ok-end_run.ensures.same.page c.in_ok-end_run.ensures.same.number c.in_ok-end_run.ensures.same.used c.in_ok-end_run.ensures.same.there c.in_ok-end_run.ensures.same.number
