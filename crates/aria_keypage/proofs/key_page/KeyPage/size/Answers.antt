use Rattle.std.proofs.Common.{◌∙◌, ap, subst, length}
use Rattle.aria_keypage.specs.Content.{Content, item_bytes, IsContent}
use Rattle.aria_keypage.proofs.Read.{leaf-size, node-size, content-count}
use Rattle.aria_keypage.proofs.key_page.KeyPage.size.Goals as goal

pub returns-in-Leaf : goal.returns-in-Leaf
returns-in-Leaf c =
    let content = subst IsContent c.self.view_is c.self.invariant.content in
    record {
      size = leaf-size c.self.inside.kind c.self.inside.key c.self.inside.first c.self.inside.items.now c.self.inside.count c.self.invariant c.in-Leaf.is ∙ ap (λ (d : Content). length (item_bytes d)) c.self.view_is;
      content = content;
      count = content-count _ content;
    }

pub returns-in-Node : goal.returns-in-Node
returns-in-Node c =
    let content = subst IsContent c.self.view_is c.self.invariant.content in
    record {
      size = node-size c.self.inside.kind c.self.inside.key c.self.inside.first c.self.inside.items.now c.self.inside.count c.self.invariant c.in-Node.is ∙ ap (λ (d : Content). length (item_bytes d)) c.self.view_is;
      content = content;
      count = content-count _ content;
    }
