use Rattle.std.proofs.Common.{◌≡◌, Some, sym, ap, ◌∙◌, arith, subst, ℕ, List, ◌++◌, drop}
use Rattle.aria_keypage.specs.StoredItem.{StoredItem, stored_at}
use Rattle.aria_keypage.specs.Content.{Spells}
use Rattle.aria_keypage.proofs.ReadingOn.{item-there, read-on}
use Rattle.aria_keypage.proofs.leaf_reader.LeafReader.read.Goals as goal

pub returns-in_default : goal.returns-in_default
returns-in_default c d at is leaf low before =
    let s : Spells c.body-body.result.now d = subst (λ (b : List ℕ). Spells b d) (sym c.body-body.ensures.value) is in
    let there = ap (stored_at 5) c.bytes_from.ensures.value ∙ item-there c.body-body.result.now d at c.args.self.now s leaf low before in
    let none = c.in_default.ensures in
    absurd cc

pub returns : goal.returns
returns c d at is leaf low before =
    let r : StoredItem = record { shared = c.in-Some.item.shared; rest = c.in-Some.item.rest.now; to = c.in-Some.item.to.now } in
    let body : List ℕ = c.body-body.result.now in
    let s : Spells body d = subst (λ (b : List ℕ). Spells b d) (sym c.body-body.ensures.value) is in
    let read : stored_at 5 (drop c.args.self.now.byte body) ≡ Some (r, c.in-Some.behind.now) = sym (ap (stored_at 5) c.bytes_from.ensures.value) ∙ c.in-Some.ensures in
    let entry = c.in_ok-extend_from_slice.ensures.items ∙ ap (λ (l : List ℕ). l ++ r.rest) c.truncate.ensures.items in
    read-on body d at c.number_in.result c.args.self.now (record { byte = c.saturating_sub-self.result; entry = c.extend_from_slice.new.self }) (r, c.in-Some.behind.now) s leaf low before read (omega arith) entry (λ n fits e. c.number_in.ensures n fits e)
