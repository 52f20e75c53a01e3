use Rattle.std.proofs.Common.{◌≡◌, ◌∙◌, sym, ap, arith, length, subst, ◌≤◌}
use Rattle.aria_keypage.specs.declared.kind.Kind.{Kind}
use Rattle.aria_keypage.specs.Content.{Content}
use Rattle.aria_keypage.specs.Merge.{taken_over}
use Rattle.aria_keypage.proofs.Read.{content-count}
use Rattle.aria_keypage.proofs.key_page.KeyPage.count_over.Goals as goal

pub returns-in-Leaf : goal.returns-in-Leaf
returns-in-Leaf c between =
    let d : Content = c.args.self.now in
    let kind = sym (ap (λ (e : Content). e.kind) c.self.view_is) ∙ c.in-Leaf.is in
    let count : c.self.inside.count ≡ length d.items = c.self.invariant.count_is ∙ ap (λ (e : Content). length e.items) c.self.view_is in
    count ∙ sym (ap (λ (b : Kind). length (taken_over b between d.first d.items)) kind)

pub overflow_add-result : goal.overflow_add-result
overflow_add-result c =
    let low : length c.args.self.now.items ≤ 8177 = subst (λ (d : Content). length d.items ≤ 8177) c.self.view_is (content-count _ c.self.invariant.content) in
    let count : c.self.inside.count ≡ length c.args.self.now.items = c.self.invariant.count_is ∙ ap (λ (e : Content). length e.items) c.self.view_is in
    omega arith

pub returns-in-Node : goal.returns-in-Node
returns-in-Node c between =
    let d : Content = c.args.self.now in
    let kind = sym (ap (λ (e : Content). e.kind) c.self.view_is) ∙ c.in-Node.is in
    let count : c.self.inside.count ≡ length d.items = c.self.invariant.count_is ∙ ap (λ (e : Content). length e.items) c.self.view_is in
    omega (arith, count, ap (λ (b : Kind). length (taken_over b between d.first d.items)) kind)
