-- Two pages side by side are joined, or their items divided anew.
use Rattle.std.proofs.Common.{◌≡◌, ℕ, ◌<◌, List, [], ◌∷◌, ◌++◌, length, refl, sym, ◌∙◌, arith, length-append}
use Rattle.aria_keypage.specs.declared.kind.Kind.{Kind}
use Rattle.aria_keypage.specs.declared.kind.Kind.TheVariants.{Leaf, Node}
use Rattle.aria_keypage.specs.Item.{Item}
use Rattle.aria_keypage.specs.Merge.{taken_over, joined}
use Rattle.aria_keypage.specs.Split.{left_half, right_half}
use Rattle.aria_key.specs.Tree.{Placed, items_of, name_of, items_on, names, IsOf, IsLevel}
use Rattle.aria_key.specs.Step.{Has}
use Rattle.aria_key.proofs.Lists.{all-right}
use Rattle.aria_key.proofs.Changing.{join}
use Rattle.aria_keypage.proofs.Fans.{fan-joined}
use Rattle.aria_key.proofs.Dividing.{holding, right_of, divided}

record First (xs : List Item) : Type 0 where
  y : Item
  f : List Item
  is : xs ≡ y ∷ f

first-item : (p : Placed) → 0 < length p.content.items → First (items_of p)
first-item p h = by p.content.kind p.content.items h
  where
    by : (b : Kind) (xs : List Item) → 0 < length xs → First (taken_over b p.low p.content.first xs)
    by Node xs h = record { y = record { entry = p.low; to = p.content.first }; f = xs; is = refl }
    by Leaf [] h = absurd (omega arith)
    by Leaf (x ∷ xs) h = record { y = x; f = xs; is = refl }

-- the page with the items of both
abbrev pub both_of : Placed → Placed → Placed
both_of p r = holding p (joined p.content r.low r.content)

pub joined-level : (kind : Kind) (key : ℕ) (xs : List Item) (a b : List Placed) (p r : Placed) → IsLevel kind key xs (a ++ p ∷ r ∷ b) → Has kind key (names a ++ name_of p ∷ names b) (a ++ both_of p r ∷ b) (items_on (a ++ p ∷ r ∷ b))
joined-level kind key xs a b p r h =
    let kinds = all-right (IsOf kind key) a (p ∷ r ∷ b) h.kinds in
    let y = first-item p kinds.0.some in
    join kind key xs a b (both_of p r) p r y.y y.f h (fan-joined p.low p.content r.content r.low (kinds.1.0.kind_is ∙ sym kinds.0.kind_is)) y.is refl refl
    (record { kind_is = kinds.0.kind_is; key_is = kinds.0.key_is; some = omega (arith, kinds.0.some, length-append p.content.items (taken_over p.content.kind r.low r.content.first r.content.items)) })

-- their items divided anew: joined, and then divided
pub shared-level : (kind : Kind) (key : ℕ) (xs : List Item) (a b : List Placed) (p r : Placed) (k : ℕ) → IsLevel kind key xs (a ++ p ∷ r ∷ b)
    → 0 < k → k < length (joined p.content r.low r.content).items → 0 < length (right_half (joined p.content r.low r.content) k).items
    → Has kind key (names a ++ name_of p ∷ name_of (right_of (both_of p r) k r.page) ∷ names b) (a ++ holding p (left_half (joined p.content r.low r.content) k) ∷ right_of (both_of p r) k r.page ∷ b) (items_on (a ++ p ∷ r ∷ b))
shared-level kind key xs a b p r k h some low more =
    let j = joined-level kind key xs a b p r h in
    let d = divided kind key (names a ++ name_of p ∷ names b) a b (both_of p r) k r.page j.level some low more in
    record { level = d.level; items_are = d.items_are ∙ j.items_are }
