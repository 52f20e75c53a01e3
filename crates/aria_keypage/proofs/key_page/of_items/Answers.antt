use Rattle.std.proofs.Common.{arith}
use Rattle.aria_keypage.proofs.Read.{page-found, page-is}
use Rattle.aria_keypage.proofs.key_page.of_items.Goals as goal

pub invariant_of-result : goal.invariant_of-result
invariant_of-result c = page-found c.args.kind c.args.key c.args.first c.args.items.now c.in_ok-count.count c.width.result c.width.ensures (omega arith) c.requires.first c.requires.size c.in_ok-count.ensures.found

pub returns-clause-found : goal.returns-clause-found
returns-clause-found c =
    page-is c.args.kind c.args.key c.args.first c.args.items.now c.in_ok-count.count
    (page-found c.args.kind c.args.key c.args.first c.args.items.now c.in_ok-count.count c.width.result c.width.ensures (omega arith) c.requires.first c.requires.size c.in_ok-count.ensures.found)
