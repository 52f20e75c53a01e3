use Rattle.std.proofs.Common.{◌≤◌, ℕ, List, true, length, refl, sym, arith, rules, subst, inl, Option}
use Rattle.std.specs.Prelude.{IsSome}
use Rattle.aria_journal.proofs.Forcing.{unwritten_keeps, closed_keeps, closed_forced}
use Rattle.aria_journal.proofs.log.Log.close_run.Goals as goal

pub returns-in_err-write-clause-moments : goal.returns-in_err-write-clause-moments
returns-in_err-write-clause-moments g c = λ told frames forced is.
    let some : 1 ≤ length is.at.held = omega (arith, is.at.fills.used_is, c.requires.used) in
    unwritten_keeps c.args.self.now c.write.new.self (g.H.Host.state c.args.host.now) (g.H.Host.state c.write.new.host) frames forced _ is
    (c.in_err-write.ensures.wrote told is.base is.at.written is.at.before is.at.held is.at.writing is.at.fills some)

pub sync-requires-clause-there : goal.sync-requires-clause-there
sync-requires-clause-there g c = λ told.
    let (frames, forced, is) = c.requires.log told in
    let some : 1 ≤ length is.at.held = omega (arith, is.at.fills.used_is, c.requires.used) in
    let wrote = c.in_ok-write.ensures.wrote told is.base is.at.written is.at.before is.at.held is.at.writing is.at.fills some in
    let folder = (wrote.writing refl true (inl refl)).folder in
    subst (λ (o : Option (List (List ℕ))). IsSome o) (sym folder) (search rules)

pub returns-in_err-sync-clause-moments : goal.returns-in_err-sync-clause-moments
returns-in_err-sync-clause-moments g c = λ told frames forced is.
    let some : 1 ≤ length is.at.held = omega (arith, is.at.fills.used_is, c.requires.used) in
    closed_keeps c.args.self.now c.write.new.self (g.H.Host.state c.args.host.now) (g.H.Host.state c.write.new.host) (g.H.Host.state c.sync.new.self) frames forced _
    (λ f b left. g.met.H.Host.only_now c.write.new.host f b told left) is
    (c.in_ok-write.ensures.wrote told is.base is.at.written is.at.before is.at.held is.at.writing is.at.fills some)
    (c.in_err-sync.ensures.synced told)

pub returns-clause-moments : goal.returns-clause-moments
returns-clause-moments g c = λ told frames forced is.
    let some : 1 ≤ length is.at.held = omega (arith, is.at.fills.used_is, c.requires.used) in
    closed_keeps c.args.self.now c.write.new.self (g.H.Host.state c.args.host.now) (g.H.Host.state c.write.new.host) (g.H.Host.state c.sync.new.self) frames forced _
    (λ f b left. g.met.H.Host.only_now c.write.new.host f b told left) is
    (c.in_ok-write.ensures.wrote told is.base is.at.written is.at.before is.at.held is.at.writing is.at.fills some)
    (c.in_ok-sync.ensures.synced told)

pub returns-clause-forced : goal.returns-clause-forced
returns-clause-forced g c = λ told frames forced is.
    let some : 1 ≤ length is.at.held = omega (arith, is.at.fills.used_is, c.requires.used) in
    closed_forced c.args.self.now c.write.new.self _ (g.H.Host.state c.args.host.now) (g.H.Host.state c.write.new.host) (g.H.Host.state c.sync.new.self) frames forced is
    (c.in_ok-write.ensures.wrote told is.base is.at.written is.at.before is.at.held is.at.writing is.at.fills some)
    (c.in_ok-sync.ensures.synced told) refl refl refl refl
