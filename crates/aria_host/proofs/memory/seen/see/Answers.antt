use Rattle.std.proofs.Common.{Bool, ap, ◌∙◌}
use Rattle.aria_host.specs.Seen.{page_after}
use Rattle.aria_host.proofs.OnePass.{sees_none, sees_more}
use Rattle.aria_host.proofs.memory.seen.see.Goals as goal

pub loop-change-init : goal.loop-change-init
loop-change-init c = (sees_none c.args.changes.now c.args.file.now c.args.at c.args.count c.args.held.now, λ small. small)

pub loop-change-preserved : goal.loop-change-preserved
loop-change-preserved c =
    let l = c.loop-change in
    let change = c.change-item.result in
    let paged = c.page_after-held.ensures ∙ ap (λ (b : Bool). page_after change c.args.file.now c.args.at b l.held.now) c.is_some.ensures in (
      sees_more c.args.changes.now l.change-index c.args.file.now c.args.at c.args.count c.args.held.now l.count c.count_after-count.result l.held.now c.page_after-held.result.now change l.invariant.0 c.loop-change-test.true c.change-item.is c.count_after-count.ensures.value paged,
      λ small. c.count_after-count.ensures.small (l.invariant.1 small),
    )
