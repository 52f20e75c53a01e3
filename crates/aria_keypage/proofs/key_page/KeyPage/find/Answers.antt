use Rattle.std.proofs.Common.{◌≤◌, List, length, subst, sym}
use Rattle.aria_keypage.specs.Item.{Item}
use Rattle.aria_keypage.specs.Packed.{ArePacked}
use Rattle.aria_keypage.specs.Content.{Content}
use Rattle.aria_keypage.specs.Reading.{content_of}
use Rattle.aria_keypage.proofs.Child.{position-within}
use Rattle.aria_keypage.proofs.key_page.KeyPage.find.Goals as goal

pub returns-clause-within : goal.returns-clause-within
returns-clause-within c =
    let items : List Item = (content_of c.self.inside.kind c.self.inside.key c.self.inside.first c.self.inside.items.now).items in
    let packed : ArePacked c.width.result items c.self.inside.items.now = subst (λ w. ArePacked w items c.self.inside.items.now) (sym c.width.ensures) c.self.invariant.packed in
    subst (λ (d : Content). c.find_in.result.0 ≤ length d.items) c.self.view_is
    (position-within c.args.entry.now items c.find_in.result.0 c.find_in.result.1 (c.find_in.ensures items packed c.self.invariant.count_is))
