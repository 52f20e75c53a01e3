use Rattle.std.proofs.Common.{◌≡◌, ◌*◌, ◌/◌, arith}
use Rattle.aria_bitmap.proofs.Seeking.{none_past}
use Rattle.aria_bitmap.proofs.search.past_groups.Goals as goal

pub returns-clause-before : goal.returns-clause-before
returns-clause-before c = none_past c.args.sought.now c.args.body.now c.args.nth c.first_group.result (omega arith) c.first_group.ensures.before

pub returns-clause-found : goal.returns-clause-found
returns-clause-found c = λ whole left.
    let same : 8 * c.first_group.result / 8 ≡ c.first_group.result = omega arith in
    rw same (c.first_group.ensures.found (omega arith))
