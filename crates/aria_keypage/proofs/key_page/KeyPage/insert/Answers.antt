use Rattle.std.proofs.Common.{◌∙◌, ◌-◌, ap, sym, subst, arith, length, List}
use Rattle.std.specs.List.{sum_by}
use Rattle.aria_page.specs.declared.edit.Edit.{Edit}
use Rattle.aria_page.specs.Edit.{edit_bytes}
use Rattle.aria_keypage.specs.Item.{Item}
use Rattle.aria_keypage.specs.Content.{Content, width}
use Rattle.aria_keypage.specs.Change.{Changes, with_item}
use Rattle.aria_keypage.proofs.Spliced.{inserts, patch-bytes}
use Rattle.aria_keypage.proofs.key_page.KeyPage.insert.Goals as goal

pub overflow_sub-front : goal.overflow_sub-front
overflow_sub-front c =
    let d : Content = c.args.self.now in
    let x : Item = record { entry = c.args.entry.now; to = c.args.target } in
    let done = inserts d c.args.at c.size.result (width c.self.inside.kind) x c.as_slice.result.now c.new-bytes.result.items c.push_item.new.out.items c.push_next.new.out.items c.in_ok-before.rest.now c.in_ok-behind.behind.now c.size.ensures.content (record { entry = c.requires.entry; to = c.requires.target }) c.size.ensures.size c.in_ok-before.ensures.left c.in_ok-behind.ensures.behind
    (ap (λ (e : Content). width e.kind) c.self.view_is) (c.as_slice.ensures.value ∙ c.in_ok-before.ensures.entry) c.new-bytes.ensures.items c.in_ok-push_item.ensures c.in_ok-behind.ensures.bytes in
    done.low

pub returns-then-front-len-gt-ITEM_BYTES_MAX-clause-page : goal.returns-then-front-len-gt-ITEM_BYTES_MAX-clause-page
returns-then-front-len-gt-ITEM_BYTES_MAX-clause-page c =
    let d : Content = c.args.self.now in
    let x : Item = record { entry = c.args.entry.now; to = c.args.target } in
    let done = inserts d c.args.at c.size.result (width c.self.inside.kind) x c.as_slice.result.now c.new-bytes.result.items c.push_item.new.out.items c.push_next.new.out.items c.in_ok-before.rest.now c.in_ok-behind.behind.now c.size.ensures.content (record { entry = c.requires.entry; to = c.requires.target }) c.size.ensures.size c.in_ok-before.ensures.left c.in_ok-behind.ensures.behind
    (ap (λ (e : Content). width e.kind) c.self.view_is) (c.as_slice.ensures.value ∙ c.in_ok-before.ensures.entry) c.new-bytes.ensures.items c.in_ok-push_item.ensures c.in_ok-behind.ensures.bytes in
    omega (arith, done.size_is, c.if-front-len-gt-ITEM_BYTES_MAX.true)

pub overflow_add-front-2 : goal.overflow_add-front-2
overflow_add-front-2 c =
    let d : Content = c.args.self.now in
    let x : Item = record { entry = c.args.entry.now; to = c.args.target } in
    let done = inserts d c.args.at c.size.result (width c.self.inside.kind) x c.as_slice.result.now c.new-bytes.result.items c.push_item.new.out.items c.push_next.new.out.items c.in_ok-before.rest.now c.in_ok-behind.behind.now c.size.ensures.content (record { entry = c.requires.entry; to = c.requires.target }) c.size.ensures.size c.in_ok-before.ensures.left c.in_ok-behind.ensures.behind
    (ap (λ (e : Content). width e.kind) c.self.view_is) (c.as_slice.ensures.value ∙ c.in_ok-before.ensures.entry) c.new-bytes.ensures.items c.in_ok-push_item.ensures c.in_ok-behind.ensures.bytes in
    omega (arith, done.few, done.low, done.inner, c.size.ensures.size, c.size.ensures.content.size)

pub overflow_sub-rest : goal.overflow_sub-rest
overflow_sub-rest c =
    let d : Content = c.args.self.now in
    let x : Item = record { entry = c.args.entry.now; to = c.args.target } in
    let done = inserts d c.args.at c.size.result (width c.self.inside.kind) x c.as_slice.result.now c.new-bytes.result.items c.push_item.new.out.items c.push_next.new.out.items c.in_ok-before.rest.now c.in_ok-behind.behind.now c.size.ensures.content (record { entry = c.requires.entry; to = c.requires.target }) c.size.ensures.size c.in_ok-before.ensures.left c.in_ok-behind.ensures.behind
    (ap (λ (e : Content). width e.kind) c.self.view_is) (c.as_slice.ensures.value ∙ c.in_ok-before.ensures.entry) c.new-bytes.ensures.items c.in_ok-push_item.ensures c.in_ok-behind.ensures.bytes in
    done.inner

pub patch_of-requires : goal.patch_of-requires
patch_of-requires c =
    let d : Content = c.args.self.now in
    let x : Item = record { entry = c.args.entry.now; to = c.args.target } in
    let done = inserts d c.args.at c.size.result (width c.self.inside.kind) x c.as_slice.result.now c.new-bytes.result.items c.push_item.new.out.items c.push_next.new.out.items c.in_ok-before.rest.now c.in_ok-behind.behind.now c.size.ensures.content (record { entry = c.requires.entry; to = c.requires.target }) c.size.ensures.size c.in_ok-before.ensures.left c.in_ok-behind.ensures.behind
    (ap (λ (e : Content). width e.kind) c.self.view_is) (c.as_slice.ensures.value ∙ c.in_ok-before.ensures.entry) c.new-bytes.ensures.items c.in_ok-push_item.ensures c.in_ok-behind.ensures.bytes in
    record { old = done.old_fits; new = omega (arith, done.size_is, c.if-front-len-gt-ITEM_BYTES_MAX.false) }

pub returns-clause-page : goal.returns-clause-page
returns-clause-page c =
    let d : Content = c.args.self.now in
    let x : Item = record { entry = c.args.entry.now; to = c.args.target } in
    let done = inserts d c.args.at c.size.result (width c.self.inside.kind) x c.as_slice.result.now c.new-bytes.result.items c.push_item.new.out.items c.push_next.new.out.items c.in_ok-before.rest.now c.in_ok-behind.behind.now c.size.ensures.content (record { entry = c.requires.entry; to = c.requires.target }) c.size.ensures.size c.in_ok-before.ensures.left c.in_ok-behind.ensures.behind
    (ap (λ (e : Content). width e.kind) c.self.view_is) (c.as_slice.ensures.value ∙ c.in_ok-before.ensures.entry) c.new-bytes.ensures.items c.in_ok-push_item.ensures c.in_ok-behind.ensures.bytes in
    subst (λ (l : List Edit). Changes l d (with_item d c.args.at x)) (sym c.patch_of.ensures) (done.changes (omega (arith, done.size_is, c.if-front-len-gt-ITEM_BYTES_MAX.false)))

pub returns-clause-bytes : goal.returns-clause-bytes
returns-clause-bytes c =
    let d : Content = c.args.self.now in
    let x : Item = record { entry = c.args.entry.now; to = c.args.target } in
    let done = inserts d c.args.at c.size.result (width c.self.inside.kind) x c.as_slice.result.now c.new-bytes.result.items c.push_item.new.out.items c.push_next.new.out.items c.in_ok-before.rest.now c.in_ok-behind.behind.now c.size.ensures.content (record { entry = c.requires.entry; to = c.requires.target }) c.size.ensures.size c.in_ok-before.ensures.left c.in_ok-behind.ensures.behind
    (ap (λ (e : Content). width e.kind) c.self.view_is) (c.as_slice.ensures.value ∙ c.in_ok-before.ensures.entry) c.new-bytes.ensures.items c.in_ok-push_item.ensures c.in_ok-behind.ensures.bytes in
    omega (arith, ap (sum_by edit_bytes) c.patch_of.ensures, patch-bytes (c.size.result - length c.in_ok-before.rest.now) (length c.in_ok-before.rest.now - length c.in_ok-behind.behind.now) (length c.in_ok-behind.behind.now) c.push_next.new.out.items, done.brings)

pub returns-clause-most : goal.returns-clause-most
returns-clause-most c =
    let d : Content = c.args.self.now in
    let x : Item = record { entry = c.args.entry.now; to = c.args.target } in
    let done = inserts d c.args.at c.size.result (width c.self.inside.kind) x c.as_slice.result.now c.new-bytes.result.items c.push_item.new.out.items c.push_next.new.out.items c.in_ok-before.rest.now c.in_ok-behind.behind.now c.size.ensures.content (record { entry = c.requires.entry; to = c.requires.target }) c.size.ensures.size c.in_ok-before.ensures.left c.in_ok-behind.ensures.behind
    (ap (λ (e : Content). width e.kind) c.self.view_is) (c.as_slice.ensures.value ∙ c.in_ok-before.ensures.entry) c.new-bytes.ensures.items c.in_ok-push_item.ensures c.in_ok-behind.ensures.bytes in
    omega (arith, ap (sum_by edit_bytes) c.patch_of.ensures, patch-bytes (c.size.result - length c.in_ok-before.rest.now) (length c.in_ok-before.rest.now - length c.in_ok-behind.behind.now) (length c.in_ok-behind.behind.now) c.push_next.new.out.items, done.few)
