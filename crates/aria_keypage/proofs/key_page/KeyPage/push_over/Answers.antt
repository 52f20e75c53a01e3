use Rattle.std.proofs.Common.{◌≡◌, ◌∙◌, ◌++◌, ap, sym, List, ℕ, append_assoc, refl}
use Rattle.aria_keypage.specs.Content.{Content, width}
use Rattle.aria_keypage.specs.Packed.{packed_item, packed}
use Rattle.aria_keypage.proofs.Options.{ok-map}
use Rattle.aria_keypage.proofs.Joined.{over-node}
use Rattle.aria_keypage.proofs.key_page.KeyPage.push_over.Goals as goal

pub returns-in_ok-push_item-in-Node-clause-bytes : goal.returns-in_ok-push_item-in-Node-clause-bytes
returns-in_ok-push_item-in-Node-clause-bytes c =
    let d : Content = c.args.self.now in
    let kind = sym (ap (λ (e : Content). e.kind) c.self.view_is) ∙ c.in-Node.is in
    let first = ap (λ (e : Content). e.first) c.self.view_is in
    let one : List ℕ = packed_item 4 c.args.before.now (record { entry = c.args.between.now; to = c.self.inside.first }) in
    ok-map c.push_all-in-Node.result (λ _. c.push_all-in-Node.new.out.items ≡ c.push_item.new.out.items ++ packed (width d.kind) c.args.between.now d.items) _
    (λ _ e. e ∙ ap (λ (l : List ℕ). l ++ packed (width d.kind) c.args.between.now d.items) c.in_ok-push_item-in-Node.ensures ∙ append_assoc c.args.out.now.items one (packed (width d.kind) c.args.between.now d.items)
    ∙ ap (λ (l : List ℕ). c.args.out.now.items ++ l) (ap (λ (n : ℕ). packed_item 4 c.args.before.now (record { entry = c.args.between.now; to = n }) ++ packed (width d.kind) c.args.between.now d.items) first ∙ over-node (width d.kind) d.kind c.args.before.now c.args.between.now d.first d.items kind refl)) c.push_all-in-Node.ensures
