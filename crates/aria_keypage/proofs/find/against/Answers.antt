use Rattle.std.proofs.Common.{◌∙◌, ◌+◌, ap, arith, length, ℕ}
use Rattle.std.proofs.lemmas.List.{length-drop}
use Rattle.aria_keypage.proofs.Shares.{common-le}
use Rattle.aria_keypage.proofs.Sought.{against-beyond, against-rest}
use Rattle.aria_keypage.proofs.find.against.Goals as goal

pub returns-then-shared-common-clause-common : goal.returns-then-shared-common-clause-common
returns-then-shared-common-clause-common c before there e shares rest =
    (against-beyond before there c.args.entry.now c.args.common c.args.item.now.shared e c.if-shared-common.true shares).0

pub returns-then-shared-common-clause-order : goal.returns-then-shared-common-clause-order
returns-then-shared-common-clause-order c before there e below shares rest =
    (against-beyond before there c.args.entry.now c.args.common c.args.item.now.shared e c.if-shared-common.true shares).1 below

pub overflow_add-result : goal.overflow_add-result
overflow_add-result c =
    let most = (common-le c.args.item.now.rest.now c.bytes_from.result.now).1 in
    omega (arith, most, c.compare-same.ensures.common, ap length c.bytes_from.ensures.value, length-drop c.args.item.now.shared c.args.entry.now)

pub returns-clause-within : goal.returns-clause-within
returns-clause-within c =
    let most = (common-le c.args.item.now.rest.now c.bytes_from.result.now).1 in
    omega (arith, most, c.compare-same.ensures.common, ap length c.bytes_from.ensures.value, length-drop c.args.item.now.shared c.args.entry.now)

pub returns-clause-common : goal.returns-clause-common
returns-clause-common c before there e shares rest =
    ap (λ (k : ℕ). c.args.item.now.shared + k) c.compare-same.ensures.common
    ∙ (against-rest before there c.args.entry.now c.args.item.now.rest.now c.bytes_from.result.now c.args.common c.args.item.now.shared e c.if-shared-common.false shares rest c.bytes_from.ensures.value).0

pub returns-clause-order : goal.returns-clause-order
returns-clause-order c before there e below shares rest =
    c.compare-same.ensures.order
    ∙ (against-rest before there c.args.entry.now c.args.item.now.rest.now c.bytes_from.result.now c.args.common c.args.item.now.shared e c.if-shared-common.false shares rest c.bytes_from.ensures.value).1
