use Rattle.std.proofs.Common.{◌∙◌, ◌++◌, ap, sym, subst, arith, length, List, ℕ}
use Rattle.std.specs.List.{AllByRecursion}
use Rattle.aria_keypage.specs.Item.{IsItem, item_at}
use Rattle.aria_keypage.specs.StoredItem.{StoredItem}
use Rattle.aria_keypage.specs.Content.{Content, width, IsContent}
use Rattle.aria_keypage.specs.Packed.{packed_item}
use Rattle.aria_keypage.proofs.Next.{next-none, next-some}
use Rattle.aria_keypage.proofs.Spliced.{first-at}
use Rattle.aria_keypage.proofs.key_page.KeyPage.push_next.Goals as goal

pub returns-in_default-clause-bytes : goal.returns-in_default-clause-bytes
returns-in_default-clause-bytes c =
    let d : Content = c.args.self.now in
    let all : AllByRecursion (IsItem (width d.kind)) d.items = (subst IsContent c.self.view_is c.self.invariant.content).items in
    (next-none (width d.kind) c.width.result d.items c.args.at c.args.rest.now c.args.entry.now c.args.out.now.items (c.width.ensures ∙ ap (λ (e : Content). width e.kind) c.self.view_is) all c.requires.rest c.in_default.ensures).0

pub returns-in_default-clause-behind : goal.returns-in_default-clause-behind
returns-in_default-clause-behind c =
    let d : Content = c.args.self.now in
    let all : AllByRecursion (IsItem (width d.kind)) d.items = (subst IsContent c.self.view_is c.self.invariant.content).items in
    (next-none (width d.kind) c.width.result d.items c.args.at c.args.rest.now c.args.entry.now c.args.out.now.items (c.width.ensures ∙ ap (λ (e : Content). width e.kind) c.self.view_is) all c.requires.rest c.in_default.ensures).1

pub push_stored-requires : goal.push_stored-requires
push_stored-requires c =
    let d : Content = c.args.self.now in
    let all : AllByRecursion (IsItem (width d.kind)) d.items = (subst IsContent c.self.view_is c.self.invariant.content).items in
    let r : StoredItem = record { shared = c.in-Some.item.shared; rest = c.in-Some.item.rest.now; to = c.in-Some.item.to.now } in
    let there = next-some (width d.kind) c.width.result d.items c.args.at c.args.rest.now c.args.before.now c.in_ok-next.next.items (r, c.in-Some.behind.now) (c.width.ensures ∙ ap (λ (e : Content). width e.kind) c.self.view_is) all c.requires.rest c.in-Some.ensures c.requires.before c.in_ok-next.ensures in
    omega (arith, ap length c.as_slice.ensures.value, there.fits)

pub returns-clause-bytes : goal.returns-clause-bytes
returns-clause-bytes c =
    let d : Content = c.args.self.now in
    let w : ℕ = width d.kind in
    let out : List ℕ = c.args.out.now.items in
    let all : AllByRecursion (IsItem w) d.items = (subst IsContent c.self.view_is c.self.invariant.content).items in
    let r : StoredItem = record { shared = c.in-Some.item.shared; rest = c.in-Some.item.rest.now; to = c.in-Some.item.to.now } in
    let there = next-some w c.width.result d.items c.args.at c.args.rest.now c.args.before.now c.in_ok-next.next.items (r, c.in-Some.behind.now) (c.width.ensures ∙ ap (λ (e : Content). width e.kind) c.self.view_is) all c.requires.rest c.in-Some.ensures c.requires.before c.in_ok-next.ensures in
    c.in_ok-push_stored.ensures w (item_at d.items c.args.at).to there.to
    ∙ ap (λ (e : List ℕ). out ++ packed_item w c.args.entry.now (record { entry = e; to = (item_at d.items c.args.at).to })) (c.as_slice.ensures.value ∙ there.entry)
    ∙ sym (ap (λ (l : List ℕ). out ++ l) (first-at w c.args.entry.now d.items c.args.at there.low))

pub returns-clause-behind : goal.returns-clause-behind
returns-clause-behind c =
    let d : Content = c.args.self.now in
    let all : AllByRecursion (IsItem (width d.kind)) d.items = (subst IsContent c.self.view_is c.self.invariant.content).items in
    let r : StoredItem = record { shared = c.in-Some.item.shared; rest = c.in-Some.item.rest.now; to = c.in-Some.item.to.now } in
    (next-some (width d.kind) c.width.result d.items c.args.at c.args.rest.now c.args.before.now c.in_ok-next.next.items (r, c.in-Some.behind.now) (c.width.ensures ∙ ap (λ (e : Content). width e.kind) c.self.view_is) all c.requires.rest c.in-Some.ensures c.requires.before c.in_ok-next.ensures).behind
