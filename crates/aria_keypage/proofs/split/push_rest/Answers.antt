use Rattle.std.proofs.Common.{◌∙◌, ◌++◌, [], sym, ap, ℕ, List, append_assoc}
use Rattle.std.proofs.lemmas.List.{append-nil}
use Rattle.aria_keypage.specs.Item.{item_at}
use Rattle.aria_keypage.specs.Packed.{packed_item}
use Rattle.aria_keypage.specs.StoredItem.{stored_at}
use Rattle.aria_keypage.specs.Content.{width}
use Rattle.aria_keypage.proofs.Divided.{rest-missing, rest-pushed}
use Rattle.aria_keypage.proofs.split.push_rest.Goals as goal

pub returns-in_default : goal.returns-in_default
returns-in_default c xs at all left e =
    let missing = rest-missing (width c.args.kind) xs at c.args.rest.now all left (ap (λ (n : ℕ). stored_at n c.args.rest.now) (sym c.width.ensures) ∙ c.in_default.ensures) in
    sym (ap (λ (l : List ℕ). c.args.out.now.items ++ l) missing ∙ append-nil c.args.out.now.items)

pub returns : goal.returns
returns c xs at all left e =
    let w : ℕ = width c.args.kind in
    let there = rest-pushed w xs at c.args.rest.now _ c.args.entry.now all left (ap (λ (n : ℕ). stored_at n c.args.rest.now) (sym c.width.ensures) ∙ c.in-Some.ensures) e in
    let one : List ℕ = packed_item w [] (record { entry = c.args.entry.now; to = (item_at xs at).to }) in
    c.in_ok-extend_from_slice.ensures.items ∙ ap (λ (l : List ℕ). l ++ c.in-Some.behind.now) (c.in_ok-push_stored.ensures w (item_at xs at).to there.0)
    ∙ append_assoc c.args.out.now.items one c.in-Some.behind.now ∙ ap (λ (l : List ℕ). c.args.out.now.items ++ l) there.1
