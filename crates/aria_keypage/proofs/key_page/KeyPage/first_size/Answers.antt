use Rattle.std.proofs.Common.{◌∙◌, sym, ap, length}
use Rattle.aria_page.proofs.Numbers.{length-number}
use Rattle.aria_keypage.specs.declared.kind.Kind.{Kind}
use Rattle.aria_keypage.specs.Content.{Content, first_bytes}
use Rattle.aria_keypage.proofs.key_page.KeyPage.first_size.Goals as goal

pub returns-in-Leaf : goal.returns-in-Leaf
returns-in-Leaf c =
    let kind = sym (ap (λ (e : Content). e.kind) c.self.view_is) ∙ c.in-Leaf.is in
    sym (ap (λ (b : Kind). length (first_bytes b c.args.self.now.first)) kind)

pub returns-in-Node : goal.returns-in-Node
returns-in-Node c =
    let kind = sym (ap (λ (e : Content). e.kind) c.self.view_is) ∙ c.in-Node.is in
    sym (ap (λ (b : Kind). length (first_bytes b c.args.self.now.first)) kind ∙ length-number 4 c.args.self.now.first)
