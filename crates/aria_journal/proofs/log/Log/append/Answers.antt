use Rattle.std.proofs.Common.{refl, is_ok}
use Rattle.aria_host.proofs.Answered.{on_ok, on_ok_of}
use Rattle.aria_journal.proofs.Forcing.{appended, append_failed}
use Rattle.aria_journal.proofs.log.Log.append.Goals as goal

pub returns-in_err-add-clause-moments : goal.returns-in_err-add-clause-moments
returns-in_err-add-clause-moments g c = λ told frames forced is.
    append_failed c.args.self.now c.add.new.self (g.H.Host.state c.args.host.now) (g.H.Host.state c.add.new.host) frames forced c.args.frame.now c.u32_bytes.result _ is c.requires.frame c.u32_bytes.ensures
    (c.in_err-add.ensures.added told is.base _ is.at)

pub add-requires-2-clause-at : goal.add-requires-2-clause-at
add-requires-2-clause-at g c = λ told.
    let (frames, forced, is) = c.requires.log told in
    (is.base, _, (c.in_ok-add.ensures.added told is.base _ is.at).at refl)

pub returns-clause-appended : goal.returns-clause-appended
returns-clause-appended g c = λ told frames forced is.
    on_ok c.add-2.result _ (appended c.args.self.now c.add.new.self c.add-2.new.self (g.H.Host.state c.args.host.now) (g.H.Host.state c.add.new.host) (g.H.Host.state c.add-2.new.host) frames forced
    c.args.frame.now c.u32_bytes.result (is_ok c.add-2.result) is c.requires.frame c.u32_bytes.ensures
    (c.in_ok-add.ensures.added told is.base _ is.at)
    (λ now. c.add-2.ensures.added told is.base _ now)
    (λ done. (on_ok_of c.add-2.result _ c.add-2.ensures.ok done).1 c.requires.frame.some)).0

pub returns-clause-moments : goal.returns-clause-moments
returns-clause-moments g c = λ told frames forced is.
    (appended c.args.self.now c.add.new.self c.add-2.new.self (g.H.Host.state c.args.host.now) (g.H.Host.state c.add.new.host) (g.H.Host.state c.add-2.new.host) frames forced
    c.args.frame.now c.u32_bytes.result (is_ok c.add-2.result) is c.requires.frame c.u32_bytes.ensures
    (c.in_ok-add.ensures.added told is.base _ is.at)
    (λ now. c.add-2.ensures.added told is.base _ now)
    (λ done. (on_ok_of c.add-2.result _ c.add-2.ensures.ok done).1 c.requires.frame.some)).1
