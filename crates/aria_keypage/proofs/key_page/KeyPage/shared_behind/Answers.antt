use Rattle.std.proofs.Common.{◌≡◌, ◌∙◌, min, ap, arith, length, ℕ}
use Rattle.aria_keypage.specs.Item.{entry_before}
use Rattle.aria_keypage.specs.Packed.{common_length, shared}
use Rattle.aria_keypage.specs.Content.{Content, width}
use Rattle.aria_keypage.proofs.Read.{packed-seen}
use Rattle.aria_keypage.proofs.key_page.KeyPage.shared_behind.Goals as goal

pub returns : goal.returns
unfolding shared
returns c =
    let d : Content = c.args.self.now in
    let count : c.self.inside.count ≡ length d.items = c.self.invariant.count_is ∙ ap (λ (e : Content). length e.items) c.self.view_is in
    let ew = c.width.ensures ∙ ap (λ (e : Content). width e.kind) c.self.view_is in
    let is = packed-seen _ d c.width.result c.self.inside.items.now c.self.view_is c.self.invariant.packed ew in
    c.capped.ensures ∙ ap (min 255) (c.common_at-common.ensures.common d.items is (omega arith) ∙ ap (λ (n : ℕ). common_length (entry_before d.items n) c.args.entry.now) count)
