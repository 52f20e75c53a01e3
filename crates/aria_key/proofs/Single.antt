-- The tree of one entry.
use Rattle.std.proofs.Common.{◌≡◌, ℕ, ◌<◌, false, Option, List, [], ◌∷◌, refl, arith}
use Rattle.aria_keypage.specs.Item.{Item, is_below}
use Rattle.aria_keypage.specs.Change.{leaf_of_one}
use Rattle.aria_key.specs.Tree.{IsTree}
use Rattle.aria_key.specs.Held.{HasContent}

never-below : (a : List ℕ) → is_below a [] ≡ false
never-below [] = refl
never-below (x ∷ a) = refl

pub new-leaf : (bodies : ℕ → Option (List ℕ)) (count key page : ℕ) (x : Item) → page < count → HasContent bodies page (leaf_of_one key x) → IsTree bodies count key page ((record { low = []; page = page; content = leaf_of_one key x } ∷ []) ∷ []) (x ∷ [])
new-leaf bodies count key page x low h = record {
  some = omega arith;
  few = omega arith;
  under = (
    record { named = refl; kinds = (record { kind_is = refl; key_is = refl; some = omega arith }, tt); rising = (tt, tt); bounded = ((never-below x.entry, tt), tt, tt) },
    (λ e. absurd cc),
    refl,
  );
  hold = ((record { low = low; body = h.body; there = h.there; size = h.size; spells = h.spells }, tt), tt);
}
