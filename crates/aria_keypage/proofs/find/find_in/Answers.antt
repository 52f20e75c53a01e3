use Rattle.std.proofs.Common.{◌∙◌, ◌<◌, sym, arith, length}
use Rattle.aria_keypage.specs.Item.{item_at, entry_before}
use Rattle.aria_keypage.specs.StoredItem.{StoredItem}
use Rattle.aria_keypage.proofs.Left.{left-more, left-read}
use Rattle.aria_keypage.proofs.Sought.{read-shares, sought-none, sought-more, sought-found, sought-passed}
use Rattle.aria_keypage.proofs.find.find_in.Goals as goal

pub returns-in_default : goal.returns-in_default
returns-in_default c xs is e =
    absurd (left-read c.args.width xs c.loop-at.at c.loop-at.rest.now is.all (c.loop-at.invariant.sought xs is e).left c.in_default.ensures (omega arith))

pub returns-in-Equal : goal.returns-in-Equal
returns-in-Equal c xs is e =
    let h = c.loop-at.invariant.sought xs is e in
    let low : c.loop-at.at < length xs = omega arith in
    let r : StoredItem = record { shared = c.in-Some.item.shared; rest = c.in-Some.item.rest.now; to = c.in-Some.item.to.now } in
    let read = read-shares c.args.width xs c.loop-at.at r (left-more c.args.width xs c.loop-at.at c.loop-at.rest.now (r, c.in-Some.behind.now) is.all h.left c.in-Some.ensures low).0 in
    sought-found c.args.width xs c.args.entry.now c.loop-at.at c.loop-at.rest.now c.loop-at.common h low
    (sym (c.against-same.ensures.order (entry_before xs c.loop-at.at) (item_at xs c.loop-at.at).entry h.common_is h.below read.0 read.1) ∙ c.in-Equal.is)

pub returns-in-Greater : goal.returns-in-Greater
returns-in-Greater c xs is e =
    let h = c.loop-at.invariant.sought xs is e in
    let low : c.loop-at.at < length xs = omega arith in
    let r : StoredItem = record { shared = c.in-Some.item.shared; rest = c.in-Some.item.rest.now; to = c.in-Some.item.to.now } in
    let read = read-shares c.args.width xs c.loop-at.at r (left-more c.args.width xs c.loop-at.at c.loop-at.rest.now (r, c.in-Some.behind.now) is.all h.left c.in-Some.ensures low).0 in
    sought-passed c.args.width xs c.args.entry.now c.loop-at.at c.loop-at.rest.now c.loop-at.common h low
    (sym (c.against-same.ensures.order (entry_before xs c.loop-at.at) (item_at xs c.loop-at.at).entry h.common_is h.below read.0 read.1) ∙ c.in-Greater.is)

pub loop-at-init : goal.loop-at-init
loop-at-init c = record { within = omega arith; sought = λ xs is e. sought-none c.args.width xs c.args.entry.now c.args.items.now is }

pub loop-at-preserved : goal.loop-at-preserved
loop-at-preserved c =
    record {
      within = c.against-same.ensures.within;
      sought = λ xs is e.
          let h = c.loop-at.invariant.sought xs is e in
          let low : c.loop-at.at < length xs = omega arith in
          let r : StoredItem = record { shared = c.in-Some.item.shared; rest = c.in-Some.item.rest.now; to = c.in-Some.item.to.now } in
          let more = left-more c.args.width xs c.loop-at.at c.loop-at.rest.now (r, c.in-Some.behind.now) is.all h.left c.in-Some.ensures low in
          let read = read-shares c.args.width xs c.loop-at.at r more.0 in
          sought-more c.args.width xs c.args.entry.now c.loop-at.at c.loop-at.rest.now c.in-Some.behind.now c.loop-at.common c.against-same.result.0 h low more.1
          (c.against-same.ensures.common (entry_before xs c.loop-at.at) (item_at xs c.loop-at.at).entry h.common_is read.0 read.1)
          (sym (c.against-same.ensures.order (entry_before xs c.loop-at.at) (item_at xs c.loop-at.at).entry h.common_is h.below read.0 read.1) ∙ c.in-Less.is);
    }
