use Rattle.std.proofs.Common.{◌≡◌, ◌∙◌, ◌<◌, ◌+◌, ap, sym, arith, length, List, ℕ, refl, add-one}
use Rattle.aria_keypage.specs.Item.{item_at, entry_before}
use Rattle.aria_keypage.specs.Packed.{common_length}
use Rattle.aria_keypage.specs.StoredItem.{StoredItem}
use Rattle.aria_keypage.proofs.Left.{left-all, left-more, left-read}
use Rattle.aria_keypage.proofs.Sought.{read-shares}
use Rattle.aria_keypage.proofs.find.common_at.Goals as goal

pub loop-at-init : goal.loop-at-init
loop-at-init c = record { within = omega arith; there = λ xs is h. (left-all c.args.width xs c.args.items.now is, refl) }

pub returns-in_default-clause-common : goal.returns-in_default-clause-common
returns-in_default-clause-common c xs is h = absurd (left-read c.args.width xs c.loop-at.at c.loop-at.rest.now is.all (c.loop-at.invariant.there xs is h).0 c.in_default.ensures (omega arith))

pub returns-in_default-clause-left : goal.returns-in_default-clause-left
returns-in_default-clause-left c xs is h = absurd (left-read c.args.width xs c.loop-at.at c.loop-at.rest.now is.all (c.loop-at.invariant.there xs is h).0 c.in_default.ensures (omega arith))

pub loop-at-preserved : goal.loop-at-preserved
loop-at-preserved c =
    record {
      within = c.against-same.ensures.within;
      there = λ xs is h.
          let inv = c.loop-at.invariant.there xs is h in
          let low : c.loop-at.at < length xs = omega arith in
          let r : StoredItem = record { shared = c.in-Some.item.shared; rest = c.in-Some.item.rest.now; to = c.in-Some.item.to.now } in
          let more = left-more c.args.width xs c.loop-at.at c.loop-at.rest.now (r, c.in-Some.behind.now) is.all inv.0 c.in-Some.ensures low in
          let read = read-shares c.args.width xs c.loop-at.at r more.0 in
          let next : entry_before xs (c.loop-at.at + 1) ≡ (item_at xs c.loop-at.at).entry = ap (entry_before xs) (add-one c.loop-at.at) in
          (more.1, c.against-same.ensures.common (entry_before xs c.loop-at.at) (item_at xs c.loop-at.at).entry inv.1 read.0 read.1 ∙ ap (λ (l : List ℕ). common_length l c.args.entry.now) (sym next));
    }
