use Rattle.std.proofs.Common.{◌∙◌, ap, arith}
use Rattle.aria_keypage.specs.Item.{Item}
use Rattle.aria_keypage.specs.StoredItem.{StoredItem}
use Rattle.aria_keypage.specs.Content.{Content, width}
use Rattle.aria_keypage.proofs.Read.{packed-seen}
use Rattle.aria_keypage.proofs.Grown.{grown-last, grown-inside}
use Rattle.aria_keypage.proofs.key_page.KeyPage.grown.Goals as goal

pub returns-in_default : goal.returns-in_default
returns-in_default c to =
    let d : Content = c.args.self.now in
    let x : Item = record { entry = c.args.entry.now; to = to } in
    let ew = c.width-width.ensures ∙ ap (λ (e : Content). width e.kind) c.self.view_is in
    let is = packed-seen _ d c.width-width.result c.self.inside.items.now c.self.view_is c.self.invariant.packed ew in
    let size = grown-last d c.args.at c.width-width.result c.capped.result c.common_at-common.result.0 x c.self.inside.items.now c.common_at-common.result.1.now is ew (c.common_at-common.ensures.left d.items is c.requires.at) c.in_default.ensures (c.common_at-common.ensures.common d.items is c.requires.at) c.capped.ensures in
    omega (arith, size, c.size.ensures.size)

pub overflow_sub-result-3 : goal.overflow_sub-result-3
overflow_sub-result-3 c =
    let d : Content = c.args.self.now in
    let x : Item = record { entry = c.args.entry.now; to = 0 } in
    let ew = c.width-width.ensures ∙ ap (λ (e : Content). width e.kind) c.self.view_is in
    let is = packed-seen _ d c.width-width.result c.self.inside.items.now c.self.view_is c.self.invariant.packed ew in
    let r : StoredItem = record { shared = c.in-Some.item.shared; rest = c.in-Some.item.rest.now; to = c.in-Some.item.to.now } in
    let size = grown-inside d c.args.at c.width-width.result c.capped-2.result c.capped-3.result c.common_at-common.result.0 c.against-same.result.0 x c.self.inside.items.now c.common_at-common.result.1.now _ r is ew (c.common_at-common.ensures.left d.items is c.requires.at) c.in-Some.ensures
    (c.common_at-common.ensures.common d.items is c.requires.at) c.against-same.ensures.common c.capped-2.ensures c.capped-3.ensures in
    omega (arith, size, c.size.ensures.size)

pub returns : goal.returns
returns c to =
    let d : Content = c.args.self.now in
    let x : Item = record { entry = c.args.entry.now; to = to } in
    let ew = c.width-width.ensures ∙ ap (λ (e : Content). width e.kind) c.self.view_is in
    let is = packed-seen _ d c.width-width.result c.self.inside.items.now c.self.view_is c.self.invariant.packed ew in
    let r : StoredItem = record { shared = c.in-Some.item.shared; rest = c.in-Some.item.rest.now; to = c.in-Some.item.to.now } in
    let size = grown-inside d c.args.at c.width-width.result c.capped-2.result c.capped-3.result c.common_at-common.result.0 c.against-same.result.0 x c.self.inside.items.now c.common_at-common.result.1.now _ r is ew (c.common_at-common.ensures.left d.items is c.requires.at) c.in-Some.ensures
    (c.common_at-common.ensures.common d.items is c.requires.at) c.against-same.ensures.common c.capped-2.ensures c.capped-3.ensures in
    omega (arith, size, c.size.ensures.size)
