use Rattle.std.proofs.Common.{◌≡◌, ◌∙◌, ◌+◌, ◌++◌, [], sym, ap, arith, length, ℕ, List, drop, refl, suc, ◌<◌, append_assoc}
use Rattle.std.proofs.lemmas.List.{append-nil}
use Rattle.aria_page.specs.Number.{number}
use Rattle.aria_keypage.specs.declared.kind.Kind.TheVariants.{Node}
use Rattle.aria_keypage.specs.Item.{item_at, entry_before}
use Rattle.aria_keypage.specs.Packed.{packed}
use Rattle.aria_keypage.specs.StoredItem.{StoredItem}
use Rattle.aria_keypage.specs.Content.{Content}
use Rattle.aria_keypage.specs.Reading.{content_of}
use Rattle.aria_keypage.proofs.Left.{item_fits, left-more, left-read}
use Rattle.aria_keypage.proofs.Options.{ok-map}
use Rattle.aria_keypage.proofs.Divided.{node-pushed, packed-end}
use Rattle.aria_keypage.proofs.split.push_node.Goals as goal

pub returns-in_default : goal.returns-in_default
returns-in_default c key first =
    absurd (left-read 4 (content_of Node 0 0 c.args.items.now).items c.args.at c.args.rest.now c.requires.items.packed.all c.requires.left c.in_default.ensures (omega (arith, c.requires.items.count_is)))

pub returns-then-at-count : goal.returns-then-at-count
returns-then-at-count c key first =
    let d : Content = content_of Node key first c.args.items.now in
    let out : List ℕ = c.args.out.now.items in
    let low : c.args.at < length d.items = omega (arith, c.requires.items.count_is) in
    let more = left-more 4 d.items c.args.at c.args.rest.now _ c.requires.items.packed.all c.requires.left c.in-Some.ensures low in
    let to : c.in-Some.item.to.now ≡ number 4 (item_at d.items c.args.at).to = ap (λ (r : StoredItem). r.to) more.0 in
    let end : [] ≡ packed 4 [] (drop (c.args.at + 1) d.items) = packed-end 4 [] d.items (c.args.at + 1) (omega (arith, c.requires.items.count_is, c.if-at-count.true)) in
    c.in_ok-extend_from_slice.ensures.items ∙ ap (λ (l : List ℕ). out ++ l) (sym (append-nil c.in-Some.item.to.now) ∙ node-pushed d c.args.at c.in-Some.item.to.now [] refl to end)

pub push_rest-requires : goal.push_rest-requires
push_rest-requires c =
    let d : Content = content_of Node 0 0 c.args.items.now in
    let out : List ℕ = c.args.out.now.items in
    let low : c.args.at < length d.items = omega (arith, c.requires.items.count_is) in
    let more = left-more 4 d.items c.args.at c.args.rest.now _ c.requires.items.packed.all c.requires.left c.in-Some.ensures low in
    let to : c.in-Some.item.to.now ≡ number 4 (item_at d.items c.args.at).to = ap (λ (r : StoredItem). r.to) more.0 in
    let step : c.args.at + 2 ≡ suc (c.args.at + 1) = omega arith in
    let same : c.as_slice.result.now ≡ (item_at d.items (c.args.at + 1)).entry = c.as_slice.ensures.value ∙ c.in_ok-entry.ensures.entry d.items c.requires.items.packed (omega (arith, c.requires.items.count_is, c.if-at-count.false)) ∙ ap (entry_before d.items) step in
    omega (arith, ap length same, (item_fits 4 d.items (c.args.at + 1) c.requires.items.packed.all (omega (arith, c.requires.items.count_is, c.if-at-count.false))).entry)

pub returns : goal.returns
returns c key first =
    let d : Content = content_of Node key first c.args.items.now in
    let out : List ℕ = c.args.out.now.items in
    let low : c.args.at < length d.items = omega (arith, c.requires.items.count_is) in
    let more = left-more 4 d.items c.args.at c.args.rest.now _ c.requires.items.packed.all c.requires.left c.in-Some.ensures low in
    let to : c.in-Some.item.to.now ≡ number 4 (item_at d.items c.args.at).to = ap (λ (r : StoredItem). r.to) more.0 in
    let step : c.args.at + 2 ≡ suc (c.args.at + 1) = omega arith in
    let same : c.as_slice.result.now ≡ (item_at d.items (c.args.at + 1)).entry = c.as_slice.ensures.value ∙ c.in_ok-entry.ensures.entry d.items c.requires.items.packed (omega (arith, c.requires.items.count_is, c.if-at-count.false)) ∙ ap (entry_before d.items) step in
    let tail : List ℕ = packed 4 [] (drop (c.args.at + 1) d.items) in
    ok-map c.push_rest.result (λ _. c.push_rest.new.out.items ≡ c.extend_from_slice.new.self.items ++ tail) _
    (λ _ e. e ∙ ap (λ (l : List ℕ). l ++ tail) c.in_ok-extend_from_slice.ensures.items ∙ append_assoc out c.in-Some.item.to.now tail ∙ ap (λ (l : List ℕ). out ++ l) (node-pushed d c.args.at c.in-Some.item.to.now tail refl to refl))
    (c.push_rest.ensures d.items (c.args.at + 1) c.requires.items.packed.all more.1 (λ _. same))
