use Rattle.std.proofs.Common.{List, ◌∷◌, ◌++◌, ◌+◌, cond, drop, option_to_list, sym, subst}
use Rattle.aria_host.specs.declared.memory.effect.Effect.{Effect}
use Rattle.aria_host.specs.declared.memory.fate.Fate.{Fate}
use Rattle.aria_host.specs.Crash.{Survive}
use Rattle.aria_host.proofs.AfterCrash.{left_none, left_more, left_all}
use Rattle.aria_host.proofs.memory.crash.survivors.Goals as goal

pub loop-i-init : goal.loop-i-init
loop-i-init c = left_none c.args.changes.now c.args.fates.now c.args.before.items

pub loop-i-preserved : goal.loop-i-preserved
loop-i-preserved c =
    let l = c.loop-i in
    left_more c.args.changes.now l.i c.index-changes-i.result c.args.fates.now l.fates.now c.fates_after-fates.result.now c.args.before.items l.all.items c.in_ok-all.all.items c.survivor-left.result.0 c.loop-i-test.true c.index-changes-i.is l.invariant
    (λ rest s.
    subst (λ (later : List Effect). Survive (c.index-changes-i.result ∷ later) l.fates.now (option_to_list c.survivor-left.result.0 ++ rest)) c.behind.ensures
    (c.survivor-left.ensures rest
    (subst (λ (later : List Effect). Survive later (cond c.survivor-left.result.1 (drop 1 l.fates.now) l.fates.now) rest) (sym c.behind.ensures)
    (subst (λ (f : List Fate). Survive (drop (l.i + 1) c.args.changes.now) f rest) c.fates_after-fates.ensures s))))
    c.in_ok-all.ensures

pub returns : goal.returns
returns c =
    left_all c.args.changes.now c.loop-i.i c.args.fates.now c.loop-i.fates.now c.args.before.items c.loop-i.all.items c.loop-i-test.false c.loop-i.invariant
