use Rattle.std.proofs.Common.{◌≡◌, ◌∙◌, ◌++◌, ◌+◌, ◌-◌, ◌*◌, ◌≤◌, [], ap, subst, arith, length, ℕ, List, IfOk, inl, inr, refl}
use Rattle.std.specs.List.{sum_by}
use Rattle.std.proofs.lemmas.List.{length-append}
use Rattle.aria_page.specs.Edit.{edit_bytes}
use Rattle.aria_keypage.specs.declared.kind.Kind.{Kind}
use Rattle.aria_keypage.specs.Item.{entry_before}
use Rattle.aria_keypage.specs.Packed.{packed}
use Rattle.aria_keypage.specs.Content.{Content, IsContent, item_bytes, width}
use Rattle.aria_keypage.specs.Merge.{taken_over, joined}
use Rattle.aria_keypage.specs.Split.{holding, IsSplit}
use Rattle.aria_keypage.proofs.Options.{ok-map}
use Rattle.aria_keypage.proofs.Read.{content-count}
use Rattle.aria_keypage.proofs.Joined.{joined-packed, over-count}
use Rattle.aria_keypage.proofs.Fitting.{joined-most}
use Rattle.aria_keypage.proofs.Divided.{own-packed, held}
use Rattle.aria_keypage.proofs.key_page.KeyPage.share.Goals as goal

pub overflow_add-count : goal.overflow_add-count
overflow_add-count c =
    let d : Content = c.args.self.now in
    let r : Content = c.args.right.now in
    let count : c.self.inside.count ≡ length d.items = c.self.invariant.count_is ∙ ap (λ (e : Content). length e.items) c.self.view_is in
    let content : IsContent d = subst IsContent c.self.view_is c.self.invariant.content in
    omega (arith, count, content-count d content, content-count r c.push_over.ensures.content, c.count_over.ensures c.args.between.now, over-count r.kind c.args.between.now r.first r.items)

pub divide-requires-clause-items : goal.divide-requires-clause-items
divide-requires-clause-items c =
    let d : Content = c.args.self.now in
    let r : Content = c.args.right.now in
    let count : c.self.inside.count ≡ length d.items = c.self.invariant.count_is ∙ ap (λ (e : Content). length e.items) c.self.view_is in
    let all : Content = joined d c.args.between.now r in
    let content : IsContent d = subst IsContent c.self.view_is c.self.invariant.content in
    let own = own-packed c.self.inside.kind c.self.inside.key c.self.inside.first c.self.inside.count c.self.inside.items.now d c.self.invariant c.self.view_is in
    let before = c.as_slice.ensures.value ∙ c.in_ok-before.ensures.entry ∙ ap (entry_before d.items) count in
    let over : List ℕ = packed (width r.kind) c.as_slice.result.now (taken_over r.kind c.args.between.now r.first r.items) in
    let items : c.as_slice-2.result.now ≡ packed (width d.kind) [] d.items ++ over = c.as_slice-2.ensures.value ∙ c.in_ok-push_over.ensures.bytes ∙ ap (λ (l : List ℕ). l ++ over) (c.in_ok-items.ensures.items ∙ own) in
    let is = joined-packed d r c.args.between.now c.as_slice.result.now c.as_slice-2.result.now content c.push_over.ensures.content c.requires.kinds c.requires.between before items in
    let number : c.self.inside.count + c.count_over.result ≡ length all.items = omega (arith, count, c.count_over.ensures c.args.between.now, ap (λ (b : Kind). length (taken_over b c.args.between.now r.first r.items)) c.requires.kinds, length-append d.items (taken_over d.kind c.args.between.now r.first r.items)) in
    let same = held d all c.as_slice-2.result.now (c.self.inside.count + c.count_over.result) refl refl refl is number in
    same.1

pub divide-requires-clause-begin : goal.divide-requires-clause-begin
divide-requires-clause-begin c =
    let d : Content = c.args.self.now in
    let r : Content = c.args.right.now in
    let count : c.self.inside.count ≡ length d.items = c.self.invariant.count_is ∙ ap (λ (e : Content). length e.items) c.self.view_is in
    let all : Content = joined d c.args.between.now r in
    let content : IsContent d = subst IsContent c.self.view_is c.self.invariant.content in
    let own = own-packed c.self.inside.kind c.self.inside.key c.self.inside.first c.self.inside.count c.self.inside.items.now d c.self.invariant c.self.view_is in
    let before = c.as_slice.ensures.value ∙ c.in_ok-before.ensures.entry ∙ ap (entry_before d.items) count in
    let over : List ℕ = packed (width r.kind) c.as_slice.result.now (taken_over r.kind c.args.between.now r.first r.items) in
    let items : c.as_slice-2.result.now ≡ packed (width d.kind) [] d.items ++ over = c.as_slice-2.ensures.value ∙ c.in_ok-push_over.ensures.bytes ∙ ap (λ (l : List ℕ). l ++ over) (c.in_ok-items.ensures.items ∙ own) in
    let is = joined-packed d r c.args.between.now c.as_slice.result.now c.as_slice-2.result.now content c.push_over.ensures.content c.requires.kinds c.requires.between before items in
    let number : c.self.inside.count + c.count_over.result ≡ length all.items = omega (arith, count, c.count_over.ensures c.args.between.now, ap (λ (b : Kind). length (taken_over b c.args.between.now r.first r.items)) c.requires.kinds, length-append d.items (taken_over d.kind c.args.between.now r.first r.items)) in
    let same = held d all c.as_slice-2.result.now (c.self.inside.count + c.count_over.result) refl refl refl is number in
    (over, items)

pub divide-requires-clause-least : goal.divide-requires-clause-least
divide-requires-clause-least c =
    let d : Content = c.args.self.now in
    let r : Content = c.args.right.now in
    let count : c.self.inside.count ≡ length d.items = c.self.invariant.count_is ∙ ap (λ (e : Content). length e.items) c.self.view_is in
    let all : Content = joined d c.args.between.now r in
    let content : IsContent d = subst IsContent c.self.view_is c.self.invariant.content in
    let own = own-packed c.self.inside.kind c.self.inside.key c.self.inside.first c.self.inside.count c.self.inside.items.now d c.self.invariant c.self.view_is in
    let before = c.as_slice.ensures.value ∙ c.in_ok-before.ensures.entry ∙ ap (entry_before d.items) count in
    let over : List ℕ = packed (width r.kind) c.as_slice.result.now (taken_over r.kind c.args.between.now r.first r.items) in
    let items : c.as_slice-2.result.now ≡ packed (width d.kind) [] d.items ++ over = c.as_slice-2.ensures.value ∙ c.in_ok-push_over.ensures.bytes ∙ ap (λ (l : List ℕ). l ++ over) (c.in_ok-items.ensures.items ∙ own) in
    let is = joined-packed d r c.args.between.now c.as_slice.result.now c.as_slice-2.result.now content c.push_over.ensures.content c.requires.kinds c.requires.between before items in
    let number : c.self.inside.count + c.count_over.result ≡ length all.items = omega (arith, count, c.count_over.ensures c.args.between.now, ap (λ (b : Kind). length (taken_over b c.args.between.now r.first r.items)) c.requires.kinds, length-append d.items (taken_over d.kind c.args.between.now r.first r.items)) in
    let same = held d all c.as_slice-2.result.now (c.self.inside.count + c.count_over.result) refl refl refl is number in
    omega (arith, ap (λ (e : Content). length (item_bytes e)) same.0, c.requires.many)

pub divide-requires-clause-most : goal.divide-requires-clause-most
divide-requires-clause-most c =
    let d : Content = c.args.self.now in
    let r : Content = c.args.right.now in
    let count : c.self.inside.count ≡ length d.items = c.self.invariant.count_is ∙ ap (λ (e : Content). length e.items) c.self.view_is in
    let all : Content = joined d c.args.between.now r in
    let content : IsContent d = subst IsContent c.self.view_is c.self.invariant.content in
    let own = own-packed c.self.inside.kind c.self.inside.key c.self.inside.first c.self.inside.count c.self.inside.items.now d c.self.invariant c.self.view_is in
    let before = c.as_slice.ensures.value ∙ c.in_ok-before.ensures.entry ∙ ap (entry_before d.items) count in
    let over : List ℕ = packed (width r.kind) c.as_slice.result.now (taken_over r.kind c.args.between.now r.first r.items) in
    let items : c.as_slice-2.result.now ≡ packed (width d.kind) [] d.items ++ over = c.as_slice-2.ensures.value ∙ c.in_ok-push_over.ensures.bytes ∙ ap (λ (l : List ℕ). l ++ over) (c.in_ok-items.ensures.items ∙ own) in
    let is = joined-packed d r c.args.between.now c.as_slice.result.now c.as_slice-2.result.now content c.push_over.ensures.content c.requires.kinds c.requires.between before items in
    let number : c.self.inside.count + c.count_over.result ≡ length all.items = omega (arith, count, c.count_over.ensures c.args.between.now, ap (λ (b : Kind). length (taken_over b c.args.between.now r.first r.items)) c.requires.kinds, length-append d.items (taken_over d.kind c.args.between.now r.first r.items)) in
    let same = held d all c.as_slice-2.result.now (c.self.inside.count + c.count_over.result) refl refl refl is number in
    let most : length (item_bytes all) ≤ 11224 = elim c.requires.low [
      | inl low ↦ omega (arith, joined-most d r c.args.between.now c.requires.kinds c.requires.between, c.push_over.ensures.content.size)
      | inr low ↦ omega (arith, joined-most d r c.args.between.now c.requires.kinds c.requires.between, content.size)
    ] in
    omega (arith, ap (λ (e : Content). length (item_bytes e)) same.0, most)

pub returns-clause-split : goal.returns-clause-split
returns-clause-split c =
    let d : Content = c.args.self.now in
    let r : Content = c.args.right.now in
    let count : c.self.inside.count ≡ length d.items = c.self.invariant.count_is ∙ ap (λ (e : Content). length e.items) c.self.view_is in
    let all : Content = joined d c.args.between.now r in
    let content : IsContent d = subst IsContent c.self.view_is c.self.invariant.content in
    let own = own-packed c.self.inside.kind c.self.inside.key c.self.inside.first c.self.inside.count c.self.inside.items.now d c.self.invariant c.self.view_is in
    let before = c.as_slice.ensures.value ∙ c.in_ok-before.ensures.entry ∙ ap (entry_before d.items) count in
    let over : List ℕ = packed (width r.kind) c.as_slice.result.now (taken_over r.kind c.args.between.now r.first r.items) in
    let items : c.as_slice-2.result.now ≡ packed (width d.kind) [] d.items ++ over = c.as_slice-2.ensures.value ∙ c.in_ok-push_over.ensures.bytes ∙ ap (λ (l : List ℕ). l ++ over) (c.in_ok-items.ensures.items ∙ own) in
    let is = joined-packed d r c.args.between.now c.as_slice.result.now c.as_slice-2.result.now content c.push_over.ensures.content c.requires.kinds c.requires.between before items in
    let number : c.self.inside.count + c.count_over.result ≡ length all.items = omega (arith, count, c.count_over.ensures c.args.between.now, ap (λ (b : Kind). length (taken_over b c.args.between.now r.first r.items)) c.requires.kinds, length-append d.items (taken_over d.kind c.args.between.now r.first r.items)) in
    let same = held d all c.as_slice-2.result.now (c.self.inside.count + c.count_over.result) refl refl refl is number in
    subst (λ (e : Content). IfOk c.divide.result (λ s. IsSplit d e s.left s.right s.between)) same.0 c.divide.ensures.split

pub returns-clause-bytes : goal.returns-clause-bytes
returns-clause-bytes c =
    let d : Content = c.args.self.now in
    let r : Content = c.args.right.now in
    let count : c.self.inside.count ≡ length d.items = c.self.invariant.count_is ∙ ap (λ (e : Content). length e.items) c.self.view_is in
    let all : Content = joined d c.args.between.now r in
    let content : IsContent d = subst IsContent c.self.view_is c.self.invariant.content in
    let own = own-packed c.self.inside.kind c.self.inside.key c.self.inside.first c.self.inside.count c.self.inside.items.now d c.self.invariant c.self.view_is in
    let before = c.as_slice.ensures.value ∙ c.in_ok-before.ensures.entry ∙ ap (entry_before d.items) count in
    let over : List ℕ = packed (width r.kind) c.as_slice.result.now (taken_over r.kind c.args.between.now r.first r.items) in
    let items : c.as_slice-2.result.now ≡ packed (width d.kind) [] d.items ++ over = c.as_slice-2.ensures.value ∙ c.in_ok-push_over.ensures.bytes ∙ ap (λ (l : List ℕ). l ++ over) (c.in_ok-items.ensures.items ∙ own) in
    let is = joined-packed d r c.args.between.now c.as_slice.result.now c.as_slice-2.result.now content c.push_over.ensures.content c.requires.kinds c.requires.between before items in
    let number : c.self.inside.count + c.count_over.result ≡ length all.items = omega (arith, count, c.count_over.ensures c.args.between.now, ap (λ (b : Kind). length (taken_over b c.args.between.now r.first r.items)) c.requires.kinds, length-append d.items (taken_over d.kind c.args.between.now r.first r.items)) in
    let same = held d all c.as_slice-2.result.now (c.self.inside.count + c.count_over.result) refl refl refl is number in
    let most : length (item_bytes all) ≤ 11224 = elim c.requires.low [
      | inl low ↦ omega (arith, joined-most d r c.args.between.now c.requires.kinds c.requires.between, c.push_over.ensures.content.size)
      | inr low ↦ omega (arith, joined-most d r c.args.between.now c.requires.kinds c.requires.between, content.size)
    ] in
    ok-map c.divide.result (λ s. 2 * sum_by edit_bytes s.left ≤ 4 + (length (item_bytes (holding d c.as_slice-2.result.now)) + 1008 - 2 * length (item_bytes d))) _
    (λ s few. omega (arith, ap (λ (e : Content). length (item_bytes e)) same.0, most, few)) c.divide.ensures.bytes
