use Rattle.std.proofs.Common.{◌≤◌, length, arith, subst}
use Rattle.aria_keypage.specs.Content.{Content}
use Rattle.aria_keypage.proofs.Read.{content-count}
use Rattle.aria_keypage.proofs.key_page.KeyPage.entry_at.Goals as goal

pub overflow_add-at : goal.overflow_add-at
overflow_add-at c =
    let count : length c.args.self.now.items ≤ 8177 = subst (λ (d : Content). length d.items ≤ 8177) c.self.view_is (content-count _ c.self.invariant.content) in
    omega arith
