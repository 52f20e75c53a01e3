use Rattle.std.proofs.Common.{◌∙◌, ap, sym, arith, length, List, ℕ}
use Rattle.aria_keypage.specs.Item.{entry_before}
use Rattle.aria_keypage.specs.Packed.{shared}
use Rattle.aria_keypage.specs.Content.{Content}
use Rattle.aria_keypage.proofs.Stored.{shared-le}
use Rattle.aria_keypage.proofs.Fitting.{joined-leaf, joined-node}
use Rattle.aria_keypage.proofs.key_page.KeyPage.joined_size.Goals as goal

pub overflow_sub-result : goal.overflow_sub-result
overflow_sub-result c =
    let kind = sym (ap (λ (e : Content). e.kind) c.self.view_is) ∙ c.in-Leaf.is in
    let last : List ℕ = entry_before c.args.self.now.items (length c.args.self.now.items) in
    let size = joined-leaf c.args.self.now c.args.right.now c.args.between.now c.shared_behind.result kind c.requires.kinds (c.shared_behind.ensures ∙ ap (shared last) c.first_entry-first.ensures) in
    omega (arith, size, c.size.ensures.size, c.size-2.ensures.size)

pub returns-in-Leaf : goal.returns-in-Leaf
returns-in-Leaf c =
    let kind = sym (ap (λ (e : Content). e.kind) c.self.view_is) ∙ c.in-Leaf.is in
    let last : List ℕ = entry_before c.args.self.now.items (length c.args.self.now.items) in
    let size = joined-leaf c.args.self.now c.args.right.now c.args.between.now c.shared_behind.result kind c.requires.kinds (c.shared_behind.ensures ∙ ap (shared last) c.first_entry-first.ensures) in
    omega (arith, size, c.size.ensures.size, c.size-2.ensures.size)

pub overflow_sub-whole : goal.overflow_sub-whole
overflow_sub-whole c = omega (arith, c.shared_behind-in-Node.ensures, (shared-le (entry_before c.args.self.now.items (length c.args.self.now.items)) c.args.between.now).1)

pub overflow_sub-result-in-Node : goal.overflow_sub-result-in-Node
overflow_sub-result-in-Node c =
    let kind = sym (ap (λ (e : Content). e.kind) c.self.view_is) ∙ c.in-Node.is in
    let size = joined-node c.args.self.now c.args.right.now c.args.between.now c.shared_behind-in-Node.result c.shared_of.result kind c.requires.kinds c.shared_behind-in-Node.ensures (c.shared_of.ensures ∙ ap (shared c.args.between.now) c.first_entry-first.ensures) in
    omega (arith, size, c.size.ensures.size, c.size-2.ensures.size)

pub returns-in-Node : goal.returns-in-Node
returns-in-Node c =
    let kind = sym (ap (λ (e : Content). e.kind) c.self.view_is) ∙ c.in-Node.is in
    let size = joined-node c.args.self.now c.args.right.now c.args.between.now c.shared_behind-in-Node.result c.shared_of.result kind c.requires.kinds c.shared_behind-in-Node.ensures (c.shared_of.ensures ∙ ap (shared c.args.between.now) c.first_entry-first.ensures) in
    omega (arith, size, c.size.ensures.size, c.size-2.ensures.size)
