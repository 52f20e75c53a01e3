use Rattle.std.proofs.Common.{◌≡◌, ◌∙◌, ◌++◌, sym, ap, subst, arith, length, ℕ, List}
use Rattle.std.specs.List.{AllByRecursion}
use Rattle.aria_keypage.specs.declared.kind.Kind.{Kind}
use Rattle.aria_keypage.specs.declared.kind.Kind.TheVariants.{Node}
use Rattle.aria_keypage.specs.Item.{IsItem}
use Rattle.aria_keypage.specs.Packed.{IsLeft}
use Rattle.aria_keypage.specs.Content.{Content, IsContent, item_bytes, width}
use Rattle.aria_keypage.specs.Reading.{content_of}
use Rattle.aria_keypage.specs.Split.{holding, right_half}
use Rattle.aria_keypage.proofs.Divided.{right-content, right-same, leaf-pushed}
use Rattle.aria_keypage.proofs.key_page.KeyPage.right_body.Goals as goal

pub whole_body-requires : goal.whole_body-requires
whole_body-requires c =
    let d : Content = c.args.self.now in
    let all : Content = holding d c.args.items.now in
    let kind = sym (ap (λ (e : Content). e.kind) c.self.view_is) ∙ c.in-Leaf.is in
    let each : AllByRecursion (IsItem 5) all.items = subst (λ (b : Kind). AllByRecursion (IsItem (width b)) all.items) kind c.requires.items.packed.all in
    let left : IsLeft 5 all.items c.args.at c.args.rest.now = subst (λ (b : Kind). IsLeft (width b) all.items c.args.at c.args.rest.now) kind c.requires.left in
    let bytes = leaf-pushed all c.args.at c.new-bytes.result.items c.as_slice.result.now kind c.new-bytes.ensures.items (c.as_slice.ensures.value ∙ c.in_ok-push_rest-in-Leaf.ensures all.items c.args.at each left (λ _. c.requires.entry)) in
    omega (arith, ap length bytes, c.requires.room)

pub returns-in-Leaf : goal.returns-in-Leaf
returns-in-Leaf c =
    let d : Content = c.args.self.now in
    let all : Content = holding d c.args.items.now in
    let kind = sym (ap (λ (e : Content). e.kind) c.self.view_is) ∙ c.in-Leaf.is in
    let each : AllByRecursion (IsItem 5) all.items = subst (λ (b : Kind). AllByRecursion (IsItem (width b)) all.items) kind c.requires.items.packed.all in
    let left : IsLeft 5 all.items c.args.at c.args.rest.now = subst (λ (b : Kind). IsLeft (width b) all.items c.args.at c.args.rest.now) kind c.requires.left in
    let bytes = leaf-pushed all c.args.at c.new-bytes.result.items c.as_slice.result.now kind c.new-bytes.ensures.items (c.as_slice.ensures.value ∙ c.in_ok-push_rest-in-Leaf.ensures all.items c.args.at each left (λ _. c.requires.entry)) in
    let own : IsContent d = subst IsContent c.self.view_is c.self.invariant.content in
    let good = right-content all c.args.at own.key own.first c.requires.items.packed.all (omega (arith, c.requires.at, c.requires.items.count_is)) c.requires.room in
    let same = right-same all c.args.at in
    c.whole_body.ensures (right_half all c.args.at) good (same.0 ∙ kind) (same.1 ∙ sym (ap (λ (e : Content). e.key) c.self.view_is)) bytes

pub whole_body-requires-in-Node : goal.whole_body-requires-in-Node
whole_body-requires-in-Node c =
    let d : Content = c.args.self.now in
    let all : Content = holding d c.args.items.now in
    let kind = sym (ap (λ (e : Content). e.kind) c.self.view_is) ∙ c.in-Node.is in
    let bytes : item_bytes (right_half all c.args.at) ≡ c.as_slice-in-Node.result.now =
    ap (λ (b : Kind). item_bytes (right_half (content_of b d.key d.first c.args.items.now) c.args.at)) kind
    ∙ sym (c.as_slice-in-Node.ensures.value ∙ c.in_ok-push_node-in-Node.ensures d.key d.first ∙ ap (λ (l : List ℕ). l ++ item_bytes (right_half (content_of Node d.key d.first c.args.items.now) c.args.at)) c.new-bytes.ensures.items) in
    omega (arith, ap length bytes, c.requires.room)

pub returns : goal.returns
returns c =
    let d : Content = c.args.self.now in
    let all : Content = holding d c.args.items.now in
    let kind = sym (ap (λ (e : Content). e.kind) c.self.view_is) ∙ c.in-Node.is in
    let bytes : item_bytes (right_half all c.args.at) ≡ c.as_slice-in-Node.result.now =
    ap (λ (b : Kind). item_bytes (right_half (content_of b d.key d.first c.args.items.now) c.args.at)) kind
    ∙ sym (c.as_slice-in-Node.ensures.value ∙ c.in_ok-push_node-in-Node.ensures d.key d.first ∙ ap (λ (l : List ℕ). l ++ item_bytes (right_half (content_of Node d.key d.first c.args.items.now) c.args.at)) c.new-bytes.ensures.items) in
    let own : IsContent d = subst IsContent c.self.view_is c.self.invariant.content in
    let good = right-content all c.args.at own.key own.first c.requires.items.packed.all (omega (arith, c.requires.at, c.requires.items.count_is)) c.requires.room in
    let same = right-same all c.args.at in
    c.whole_body-in-Node.ensures (right_half all c.args.at) good (same.0 ∙ kind) (same.1 ∙ sym (ap (λ (e : Content). e.key) c.self.view_is)) bytes
