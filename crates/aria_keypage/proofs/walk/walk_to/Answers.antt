use Rattle.std.proofs.Common.{◌∙◌, ◌++◌, ap, arith, List, ℕ}
use Rattle.aria_keypage.specs.StoredItem.{StoredItem}
use Rattle.aria_keypage.proofs.Left.{left-more, left-read, left-entry}
use Rattle.aria_keypage.proofs.walk.walk_to.Goals as goal

pub returns-in_default-clause-entry : goal.returns-in_default-clause-entry
returns-in_default-clause-entry c xs is within =
    absurd (left-read c.args.width xs c.loop-at.at c.loop-at.rest.now is.all (c.loop-at.invariant xs is within).0 c.in_default.ensures (omega arith))

pub returns-in_default-clause-left : goal.returns-in_default-clause-left
returns-in_default-clause-left c xs is within =
    absurd (left-read c.args.width xs c.loop-at.at c.loop-at.rest.now is.all (c.loop-at.invariant xs is within).0 c.in_default.ensures (omega arith))

pub loop-at-preserved : goal.loop-at-preserved
loop-at-preserved c xs is within =
    let r : StoredItem = record { shared = c.in-Some.item.shared; rest = c.in-Some.item.rest.now; to = c.in-Some.item.to.now } in
    let more = left-more c.args.width xs c.loop-at.at c.loop-at.rest.now (r, c.in-Some.behind.now) is.all (c.loop-at.invariant xs is within).0 c.in-Some.ensures (omega arith) in (
      more.1,
      c.in_ok-extend_from_slice.ensures.items ∙ ap (λ (l : List ℕ). l ++ r.rest) c.truncate.ensures.items ∙ left-entry c.args.width xs c.loop-at.at c.loop-at.entry.items r (c.loop-at.invariant xs is within).1 more.0,
    )
