use Rattle.std.proofs.Common.{◌∙◌, ap, sym, subst, arith, length, List}
use Rattle.std.specs.List.{sum_by}
use Rattle.aria_page.specs.declared.edit.Edit.{Edit}
use Rattle.aria_page.specs.Edit.{edit_bytes}
use Rattle.aria_keypage.specs.Item.{entry_before}
use Rattle.aria_keypage.specs.Content.{Content}
use Rattle.aria_keypage.specs.Change.{Changes}
use Rattle.aria_keypage.specs.Merge.{joined}
use Rattle.aria_keypage.proofs.Spliced.{patch-bytes}
use Rattle.aria_keypage.proofs.Joined.{joined-changes}
use Rattle.aria_keypage.proofs.key_page.KeyPage.join.Goals as goal

pub patch_of-requires-clause-new : goal.patch_of-requires-clause-new
patch_of-requires-clause-new c =
    let count = c.self.invariant.count_is ∙ ap (λ (e : Content). length e.items) c.self.view_is in
    let before = c.as_slice.ensures.value ∙ c.in_ok-before.ensures.entry ∙ ap (entry_before c.args.self.now.items) count in
    let done = joined-changes c.args.self.now c.args.right.now c.args.between.now c.push_over.new.out.items c.new-bytes.result.items c.as_slice.result.now c.size-size.result c.size-size.ensures.content c.push_over.ensures.content c.requires.kinds c.requires.between c.requires.room c.size-size.ensures.size before c.new-bytes.ensures.items c.in_ok-push_over.ensures.bytes in
    omega (arith, done.1)

pub returns-clause-page : goal.returns-clause-page
returns-clause-page c =
    let count = c.self.invariant.count_is ∙ ap (λ (e : Content). length e.items) c.self.view_is in
    let before = c.as_slice.ensures.value ∙ c.in_ok-before.ensures.entry ∙ ap (entry_before c.args.self.now.items) count in
    let done = joined-changes c.args.self.now c.args.right.now c.args.between.now c.push_over.new.out.items c.new-bytes.result.items c.as_slice.result.now c.size-size.result c.size-size.ensures.content c.push_over.ensures.content c.requires.kinds c.requires.between c.requires.room c.size-size.ensures.size before c.new-bytes.ensures.items c.in_ok-push_over.ensures.bytes in
    subst (λ (l : List Edit). Changes l c.args.self.now (joined c.args.self.now c.args.between.now c.args.right.now)) (sym c.patch_of.ensures) done.0

pub returns-clause-bytes : goal.returns-clause-bytes
returns-clause-bytes c =
    let count = c.self.invariant.count_is ∙ ap (λ (e : Content). length e.items) c.self.view_is in
    let before = c.as_slice.ensures.value ∙ c.in_ok-before.ensures.entry ∙ ap (entry_before c.args.self.now.items) count in
    let done = joined-changes c.args.self.now c.args.right.now c.args.between.now c.push_over.new.out.items c.new-bytes.result.items c.as_slice.result.now c.size-size.result c.size-size.ensures.content c.push_over.ensures.content c.requires.kinds c.requires.between c.requires.room c.size-size.ensures.size before c.new-bytes.ensures.items c.in_ok-push_over.ensures.bytes in
    omega (arith, ap (sum_by edit_bytes) c.patch_of.ensures, patch-bytes c.size-size.result 0 0 c.push_over.new.out.items, done.2, c.size-size.ensures.size)

pub returns-clause-most : goal.returns-clause-most
returns-clause-most c =
    let count = c.self.invariant.count_is ∙ ap (λ (e : Content). length e.items) c.self.view_is in
    let before = c.as_slice.ensures.value ∙ c.in_ok-before.ensures.entry ∙ ap (entry_before c.args.self.now.items) count in
    let done = joined-changes c.args.self.now c.args.right.now c.args.between.now c.push_over.new.out.items c.new-bytes.result.items c.as_slice.result.now c.size-size.result c.size-size.ensures.content c.push_over.ensures.content c.requires.kinds c.requires.between c.requires.room c.size-size.ensures.size before c.new-bytes.ensures.items c.in_ok-push_over.ensures.bytes in
    omega (arith, ap (sum_by edit_bytes) c.patch_of.ensures, patch-bytes c.size-size.result 0 0 c.push_over.new.out.items, done.1)
