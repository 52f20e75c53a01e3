use Rattle.std.proofs.Common.{◌∙◌, ◌-◌, ap, sym, subst, arith, length, List, ℕ}
use Rattle.std.specs.List.{AllByRecursion, sum_by}
use Rattle.aria_page.specs.declared.edit.Edit.{Edit}
use Rattle.aria_page.specs.Edit.{edit_bytes}
use Rattle.aria_keypage.specs.Item.{IsItem}
use Rattle.aria_keypage.specs.StoredItem.{StoredItem, stored_at}
use Rattle.aria_keypage.specs.Content.{Content, width}
use Rattle.aria_keypage.specs.Change.{Changes, without_item}
use Rattle.aria_keypage.proofs.Left.{left-read}
use Rattle.aria_keypage.proofs.Next.{next-some}
use Rattle.aria_keypage.proofs.Spliced.{removed, removed-brings, behind-next, length-bytes_before, patch-bytes}
use Rattle.aria_keypage.proofs.key_page.KeyPage.remove.Goals as goal

pub unreachable-requires : goal.unreachable-requires
unreachable-requires c =
    let d : Content = c.args.self.now in
    let ew = c.width.ensures ∙ ap (λ (e : Content). width e.kind) c.self.view_is in
    absurd (left-read (width d.kind) d.items c.args.at c.in_ok-before.rest.now c.size-size.ensures.content.items c.in_ok-before.ensures.left (ap (λ (k : ℕ). stored_at k c.in_ok-before.rest.now) (sym ew) ∙ c.in_default.ensures) c.requires)

pub overflow_add-at : goal.overflow_add-at
overflow_add-at c =
    omega (arith, c.size-size.ensures.count, c.requires)

pub push_next-requires-clause-before : goal.push_next-requires-clause-before
push_next-requires-clause-before c =
    let d : Content = c.args.self.now in
    let all : AllByRecursion (IsItem (width d.kind)) d.items = c.size-size.ensures.content.items in
    let r : StoredItem = record { shared = c.in-Some.item.shared; rest = c.in-Some.item.rest.now; to = c.in-Some.item.to.now } in
    let there = next-some (width d.kind) c.width.result d.items c.args.at c.in_ok-before.rest.now c.as_slice.result.now c.in_ok-removed.removed.items (r, c.in-Some.left.now) (c.width.ensures ∙ ap (λ (e : Content). width e.kind) c.self.view_is) all c.in_ok-before.ensures.left c.in-Some.ensures (c.as_slice.ensures.value ∙ c.in_ok-before.ensures.entry) c.in_ok-removed.ensures in
    c.as_slice-2.ensures.value ∙ there.before

pub push_next-requires-clause-rest : goal.push_next-requires-clause-rest
push_next-requires-clause-rest c =
    let d : Content = c.args.self.now in
    let all : AllByRecursion (IsItem (width d.kind)) d.items = c.size-size.ensures.content.items in
    let r : StoredItem = record { shared = c.in-Some.item.shared; rest = c.in-Some.item.rest.now; to = c.in-Some.item.to.now } in
    let there = next-some (width d.kind) c.width.result d.items c.args.at c.in_ok-before.rest.now c.as_slice.result.now c.in_ok-removed.removed.items (r, c.in-Some.left.now) (c.width.ensures ∙ ap (λ (e : Content). width e.kind) c.self.view_is) all c.in_ok-before.ensures.left c.in-Some.ensures (c.as_slice.ensures.value ∙ c.in_ok-before.ensures.entry) c.in_ok-removed.ensures in
    there.left

pub overflow_sub-old : goal.overflow_sub-old
overflow_sub-old c =
    behind-next c.args.self.now c.args.at (length c.in_ok-before.rest.now) (length c.in_ok-behind.behind.now) c.requires (ap length c.in_ok-before.ensures.left.is) (ap length c.in_ok-behind.ensures.behind)

pub overflow_sub-size : goal.overflow_sub-size
overflow_sub-size c =
    omega (arith, length-bytes_before c.args.self.now c.args.at (omega (arith, c.requires)), c.size-size.ensures.size, ap length c.in_ok-before.ensures.left.is)

pub patch_of-requires : goal.patch_of-requires
patch_of-requires c =
    let d : Content = c.args.self.now in
    let done = removed d c.args.at c.size-size.result (length c.in_ok-before.rest.now) (length c.in_ok-behind.behind.now) c.as_slice-3.result.now c.new-bytes.result.items c.push_next.new.out.items c.size-size.ensures.content c.requires c.size-size.ensures.size (ap length c.in_ok-before.ensures.left.is) (ap length c.in_ok-behind.ensures.behind)
    (c.as_slice-3.ensures.value ∙ c.in_ok-before.ensures.entry) c.new-bytes.ensures.items c.in_ok-behind.ensures.bytes in
    record { old = done.old_fits; new = done.new_fits }

pub returns-clause-page : goal.returns-clause-page
returns-clause-page c =
    let d : Content = c.args.self.now in
    let done = removed d c.args.at c.size-size.result (length c.in_ok-before.rest.now) (length c.in_ok-behind.behind.now) c.as_slice-3.result.now c.new-bytes.result.items c.push_next.new.out.items c.size-size.ensures.content c.requires c.size-size.ensures.size (ap length c.in_ok-before.ensures.left.is) (ap length c.in_ok-behind.ensures.behind)
    (c.as_slice-3.ensures.value ∙ c.in_ok-before.ensures.entry) c.new-bytes.ensures.items c.in_ok-behind.ensures.bytes in
    subst (λ (l : List Edit). Changes l d (without_item d c.args.at)) (sym c.patch_of.ensures) done.changes

pub returns-clause-bytes : goal.returns-clause-bytes
returns-clause-bytes c =
    omega (arith, ap (sum_by edit_bytes) c.patch_of.ensures, patch-bytes (c.size-size.result - length c.in_ok-before.rest.now) (length c.in_ok-before.rest.now - length c.in_ok-behind.behind.now) (length c.in_ok-behind.behind.now) c.push_next.new.out.items, removed-brings c.args.self.now c.args.at c.as_slice-3.result.now c.new-bytes.result.items c.push_next.new.out.items (c.as_slice-3.ensures.value ∙ c.in_ok-before.ensures.entry) c.new-bytes.ensures.items c.in_ok-behind.ensures.bytes)

pub returns-clause-most : goal.returns-clause-most
returns-clause-most c =
    let d : Content = c.args.self.now in
    let done = removed d c.args.at c.size-size.result (length c.in_ok-before.rest.now) (length c.in_ok-behind.behind.now) c.as_slice-3.result.now c.new-bytes.result.items c.push_next.new.out.items c.size-size.ensures.content c.requires c.size-size.ensures.size (ap length c.in_ok-before.ensures.left.is) (ap length c.in_ok-behind.ensures.behind)
    (c.as_slice-3.ensures.value ∙ c.in_ok-before.ensures.entry) c.new-bytes.ensures.items c.in_ok-behind.ensures.bytes in
    omega (arith, ap (sum_by edit_bytes) c.patch_of.ensures, patch-bytes (c.size-size.result - length c.in_ok-before.rest.now) (length c.in_ok-before.rest.now - length c.in_ok-behind.behind.now) (length c.in_ok-behind.behind.now) c.push_next.new.out.items, done.few)
