-- An entry that isn't found is no entry of the tree.
use Rattle.std.proofs.Common.{◌≡◌, ◌≢◌, refl, true, false, Bool, Option, List, ◌∷◌, ◌++◌, take, drop, sym, ap, subst, ◌∙◌, ℕ}
use Rattle.std.specs.List.{AllByRecursion}
use Rattle.aria_keypage.specs.declared.kind.Kind.{Kind}
use Rattle.aria_keypage.specs.declared.kind.Kind.TheVariants.{Leaf}
use Rattle.aria_keypage.specs.Item.{Item, is_below}
use Rattle.aria_keypage.specs.Merge.{taken_over}
use Rattle.aria_keypage.proofs.Fans.{fan_before, fan-parts}
use Rattle.aria_key.specs.declared.path.Passed.{Passed}
use Rattle.aria_key.specs.Tree.{Placed, items_on, Rising, IsOf, IsLevel}
use Rattle.aria_key.specs.Climb.{above}
use Rattle.aria_key.specs.Place.{IsFound}
use Rattle.aria_key.specs.Inserting.{IsAbsent}
use Rattle.aria_key.proofs.Lists.{all-append, all-at, all-weaker}
use Rattle.aria_key.proofs.Order.{below-up, not-back}
use Rattle.aria_key.proofs.Bounds.{flat-under, under-first}
use Rattle.aria_key.proofs.Descending.{bounded-right, items-high, page-rises}
use Rattle.aria_key.proofs.Changing.{items-around}
use Rattle.aria_key.proofs.Leaf.{between-parts}

below-other : (a b : List ℕ) → is_below a b ≡ true → a ≡ b → ⊥
below-other a b h e =
    let same : is_below a a ≡ true = ap (is_below a) e ∙ h in
    let back : is_below a a ≡ false = not-back a a same in
    absurd cc

pub absent_found : (bodies : ℕ → Option (List ℕ)) (count key root : ℕ) (entry : List ℕ) (levels : List (List Placed)) (walk : List Item) (page at : ℕ) (path : List Passed) → IsFound bodies count key root entry levels walk page at false path → IsAbsent entry walk
absent_found bodies count key root entry levels walk page at path f =
    let p : Placed = f.on.here in
    let a : List Placed = f.on.before in
    let b : List Placed = f.on.behind in
    let level : IsLevel Leaf key (above root f.ups) (a ++ p ∷ b) = subst (IsLevel Leaf key (above root f.ups)) f.on.parts f.under.0 in
    let leaf : p.content.kind ≡ Leaf = (all-at (IsOf Leaf key) a p b (a ++ p ∷ b) refl level.kinds).kind_is in
    let rises : Rising p.content.items = subst Rising (ap (λ (t : Kind). taken_over t p.low p.content.first p.content.items) leaf) (page-rises a b p f.leaves f.on.parts f.under.0.rising) in
    let between = between-parts entry p.content.items at rises f.place in
    let own = bounded-right a (p ∷ b) level.bounded in
    let left : AllByRecursion (λ y. is_below y.entry entry ≡ true) (items_on a) =
    all-weaker (λ y. is_below y.entry p.low ≡ true) (λ y. is_below y.entry entry ≡ true) (items_on a) (λ y e. below-up y.entry p.low entry e f.on.low) (flat-under a p.low (under-first a b p level.bounded)) in
    let right : AllByRecursion (λ y. is_below entry y.entry ≡ true) (items_on b) = items-high entry b own.2 f.on.high in
    let lower : AllByRecursion (λ y. is_below y.entry entry ≡ true) (fan_before p.low p.content at) = subst (λ (t : Kind). AllByRecursion (λ y. is_below y.entry entry ≡ true) (taken_over t p.low p.content.first (take at p.content.items))) (sym leaf) between.below in
    let front : List Item = items_on a ++ fan_before p.low p.content at in
    let back : List Item = drop at p.content.items ++ items_on b in
    let was : walk ≡ front ++ back = f.under.2 ∙ ap items_on f.on.parts ∙ items-around a b p (fan_before p.low p.content at) (drop at p.content.items) (fan-parts p.low p.content at) in
    subst (IsAbsent entry) (sym was) (all-append (λ (y : Item). y.entry ≢ entry) front back
    (all-weaker (λ y. is_below y.entry entry ≡ true) (λ y. y.entry ≢ entry) front (λ y e. below-other y.entry entry e) (all-append (λ y. is_below y.entry entry ≡ true) (items_on a) (fan_before p.low p.content at) left lower))
    (all-weaker (λ y. is_below entry y.entry ≡ true) (λ y. y.entry ≢ entry) back (λ y e same. below-other entry y.entry e (sym same)) (all-append (λ y. is_below entry y.entry ≡ true) (drop at p.content.items) (items_on b) between.above right)))

-- so one of the tree's is found
pub present_same : (bodies : ℕ → Option (List ℕ)) (count key root : ℕ) (entry : List ℕ) (levels : List (List Placed)) (walk : List Item) (page at : ℕ) (same : Bool) (path : List Passed) → IsFound bodies count key root entry levels walk page at same path → (IsAbsent entry walk → ⊥) → same ≡ true
present_same bodies count key root entry levels walk page at same path f some = by same refl
  where
    by : (b : Bool) → same ≡ b → same ≡ true
    by true e = e
    by false e = absurd (some (absent_found bodies count key root entry levels walk page at path (subst (λ (b : Bool). IsFound bodies count key root entry levels walk page at b path) e f)))
