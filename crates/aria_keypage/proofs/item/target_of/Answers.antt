use Rattle.std.proofs.Common.{sym}
use Rattle.aria_keypage.specs.Item.{item_at}
use Rattle.aria_keypage.specs.Content.{width}
use Rattle.aria_keypage.proofs.Left.{left-there, left-number, item_fits}
use Rattle.aria_keypage.proofs.item.target_of.Goals as goal

pub returns-in_default : goal.returns-in_default
returns-in_default c xs at all left h = absurd (left-there (width c.args.kind) c.width.result xs at c.args.rest.now (sym c.width.ensures) all left h c.in_default.ensures)

pub returns : goal.returns
returns c xs at all left h =
    c.number_in.ensures (item_at xs at).to (item_fits (width c.args.kind) xs at all h).to
    (left-number (width c.args.kind) c.width.result xs at c.args.rest.now _ (sym c.width.ensures) all left h c.in-Some.ensures)
