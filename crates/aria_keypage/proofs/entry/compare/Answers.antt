use Rattle.std.proofs.Common.{sym, ◌∙◌}
use Rattle.aria_keypage.proofs.Shares.{order-at, order-ended}
use Rattle.aria_keypage.proofs.entry.compare.Goals as goal

pub returns-then-same-b-clause-order : goal.returns-then-same-b-clause-order
returns-then-same-b-clause-order c =
    c.cmp-order.ensures ∙ sym (order-at c.args.a.now c.args.b.now c.common_length-same.result c.common_length-same.ensures c.if-same-a.true c.if-same-b.true)

pub returns-else-same-a-clause-order : goal.returns-else-same-a-clause-order
returns-else-same-a-clause-order c =
    c.cmp-order-else-same-a.ensures ∙ sym (order-ended c.args.a.now c.args.b.now c.common_length-same.result c.common_length-same.ensures c.else-same-a.either)
