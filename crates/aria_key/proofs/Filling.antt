-- The halves of a page that had no room are full enough.
use Rattle.std.proofs.Common.{◌≡◌, ℕ, zero, suc, ◌+◌, ◌≤◌, ◌<◌, Bool, true, false, List, [], ◌∷◌, ◌++◌, length, take, drop, refl, ◌∙◌, ap, subst, arith, nat_le, length-append}
use Rattle.std.specs.List.{AllByRecursion}
use Rattle.std.proofs.lemmas.List.{length-map, length-take}
use Rattle.aria_keypage.specs.declared.key_page.TheConstants.{ITEM_BYTES_MAX}
use Rattle.aria_keypage.specs.declared.kind.Kind.{Kind}
use Rattle.aria_keypage.specs.declared.kind.Kind.TheVariants.{Leaf, Node}
use Rattle.aria_keypage.specs.Item.{Item, item_at, entry_before, is_below}
use Rattle.aria_keypage.specs.Merge.{taken_over}
use Rattle.aria_keypage.specs.Content.{item_bytes}
use Rattle.aria_keypage.specs.Change.{with_item}
use Rattle.aria_keypage.specs.Split.{AreHalves, left_half, right_half}
use Rattle.aria_keypage.proofs.Sizes.{with_item-longer, with_item-between, halves-least}
use Rattle.aria_key.specs.Tree.{Placed, name_of, names, Filled, is_top}
use Rattle.aria_key.specs.Step.{in_right}
use Rattle.aria_key.specs.Climb.{above}
use Rattle.aria_key.specs.Held.{left_with, right_with}
use Rattle.aria_key.proofs.Lists.{drop-at}
use Rattle.aria_key.proofs.Climbing.{filled-instead}
use Rattle.aria_key.proofs.Dividing.{holding, right_of, Fits}
use Rattle.aria_key.proofs.Ready.{le-of, lt-of, right-within}

all-take : (P : Item → Type 0) (xs : List Item) (n : ℕ) → n < length xs → AllByRecursion P (take (suc n) xs) → P (item_at xs n)
all-take P [] n low h = absurd (omega arith)
all-take P (x ∷ xs) zero low h = h.0
all-take P (x ∷ xs) (suc n) low h = all-take P xs n (omega arith) h.1

before-all : (P : List ℕ → Type 0) (xs : List Item) (at : ℕ) → at ≤ length xs → 0 < at → AllByRecursion (λ y. P y.entry) (take at xs) → P (entry_before xs at)
before-all P xs zero within some h = absurd (omega arith)
before-all P xs (suc n) within some h = all-take (λ y. P y.entry) xs n (omega arith) h

from-all : (P : Item → Type 0) (xs : List Item) (at : ℕ) → at < length xs → AllByRecursion P (drop at xs) → P (item_at xs at)
from-all P xs at low h = (subst (AllByRecursion P) (drop-at xs at low) h).0

fan-all : (P : Item → Type 0) (kind : Kind) (low : List ℕ) (first : ℕ) (xs : List Item) → AllByRecursion P (taken_over kind low first xs) → AllByRecursion P xs
fan-all P Leaf low first xs h = h
fan-all P Node low first xs h = h.1

-- an item that fits in its place adds no more than 1008 bytes
pub fits-most : (p : Placed) (at : ℕ) (x : Item) (b : List Placed) → Fits p at x b → at ≤ length p.content.items → length x.entry ≤ 1000 → length (item_bytes (with_item p.content at x)) ≤ length (item_bytes p.content) + 1008
fits-most p at x b f within short =
    with_item-between p.content at x within short
    (λ some. before-all (λ e. is_below e x.entry ≡ true) p.content.items at within some (fan-all (λ y. is_below y.entry x.entry ≡ true) p.content.kind p.low p.content.first (take at p.content.items) f.between.below))
    (λ low. from-all (λ y. is_below x.entry y.entry ≡ true) p.content.items at low f.between.above)

-- both halves are full enough, with the item and without
pub halves-filled : (p : Placed) (at k fresh : ℕ) (x : Item) (b : List Placed) → Fits p at x b → at ≤ length p.content.items → length x.entry ≤ 1000 → AreHalves p.content k → ITEM_BYTES_MAX < length (item_bytes (with_item p.content at x))
    → Filled (holding p (left_with p.content k at x) ∷ holding (right_of p k fresh) (right_with p.content k at x) ∷ [])
halves-filled p at k fresh x b f within short h full =
    let least = halves-least p.content k h (omega (arith, fits-most p at x b f within short, full)) in
    by (nat_le at k) refl least.0 least.1
  where
    by : (t : Bool) → nat_le at k ≡ t → 2045 ≤ length (item_bytes (left_half p.content k)) → 2045 ≤ length (item_bytes (right_half p.content k))
        → Filled (holding p (left_with p.content k at x) ∷ holding (right_of p k fresh) (right_with p.content k at x) ∷ [])
    by true t l r = rw t (omega (arith, l, with_item-longer (left_half p.content k) at x (omega (arith, le-of at k t, within, length-take k p.content.items))), (r, tt))
    by false t l r = rw t (l, (omega (arith, r, with_item-longer (right_half p.content k) (in_right p.content.kind k at) x (right-within p.content k at h.more (lt-of at k t) within)), tt))

-- a level in which such pages stand in the place of another stays full enough: the root alone may be low
pub level-filled : (root : ℕ) (us : List (List Placed)) (a b : List Placed) (p : Placed) (new : List Placed) → names (a ++ p ∷ b) ≡ above root us → (is_top us ≡ false → Filled (a ++ p ∷ b)) → Filled new → Filled (a ++ (new ++ b))
level-filled root [] a b p new named old h = by a b (ap length named)
  where
    count : (a b : List Placed) → length (names (a ++ p ∷ b)) ≡ length a + suc (length b)
    count a b = length-map (a ++ p ∷ b) name_of ∙ length-append a (p ∷ b)

    alone : (new : List Placed) → Filled new → Filled (new ++ [])
    alone [] h = tt
    alone (q ∷ new) h = (h.0, alone new h.1)

    by : (a b : List Placed) → length (names (a ++ p ∷ b)) ≡ 1 → Filled (a ++ (new ++ b))
    by [] [] e = alone new h
    by [] (q ∷ b) e = absurd (omega (arith, e, count [] (q ∷ b)))
    by (q ∷ a) b e = absurd (omega (arith, e, count (q ∷ a) b))
level-filled root (u ∷ us) a b p new named old h = filled-instead a b p new (old refl) h
