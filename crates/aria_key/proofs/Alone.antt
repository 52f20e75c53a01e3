-- Pages hold one tree with a root at most.
use Rattle.std.proofs.Common.{◌≡◌, ℕ, ◌<◌, Bool, true, false, Option, List, [], ◌∷◌, length, refl, sym, ap, subst, ◌∙◌, arith, length-append}
use Rattle.std.specs.List.{AllByRecursion}
use Rattle.std.proofs.lemmas.Option.{same_Some}
use Rattle.aria_keypage.specs.declared.kind.Kind.{Kind}
use Rattle.aria_keypage.specs.declared.kind.Kind.TheVariants.{Leaf, Node}
use Rattle.aria_keypage.specs.Item.{Item}
use Rattle.aria_keypage.specs.Merge.{taken_over}
use Rattle.aria_keypage.specs.Content.{Spells}
use Rattle.aria_keypage.proofs.Read.{spells-one}
use Rattle.aria_key.specs.Tree.{Placed, items_of, name_of, items_on, names, IsOf, IsLevel, Under, Holds, HoldAll, top, IsTree}

same-page : (bodies : ℕ → Option (List ℕ)) (count more : ℕ) (p q : Placed) → name_of p ≡ name_of q → Holds bodies count p → Holds bodies more q → p ≡ q
same-page bodies count more p q e h k =
    let page : p.page ≡ q.page = ap (λ (x : Item). x.to) e in
    let low : p.low ≡ q.low = ap (λ (x : Item). x.entry) e in
    let body : h.body ≡ k.body = same_Some h.body k.body (sym h.there ∙ ap bodies page ∙ k.there) in
    let content : p.content ≡ q.content = spells-one k.body p.content q.content (subst (λ (b : List ℕ). Spells b p.content) body h.spells) k.spells in
    λ i. record { low = low i; page = page i; content = content i }

pub same-level : (bodies : ℕ → Option (List ℕ)) (count more : ℕ) (l m : List Placed) → names l ≡ names m → AllByRecursion (Holds bodies count) l → AllByRecursion (Holds bodies more) m → l ≡ m
same-level bodies count more [] [] e h k = refl
same-level bodies count more [] (q ∷ m) e h k = absurd cc
same-level bodies count more (p ∷ l) [] e h k = absurd cc
same-level bodies count more (p ∷ l) (q ∷ m) e h k =
    let head : name_of p ≡ name_of q = cc in
    let rest : names l ≡ names m = cc in
    let one = same-page bodies count more p q head h.0 k.0 in
    let all = same-level bodies count more l m rest h.1 k.1 in
    λ i. one i ∷ all i

some-items : (kind : Kind) (key : ℕ) (l : List Placed) → 0 < length (names l) → AllByRecursion (IsOf kind key) l → 0 < length (items_on l)
some-items kind key [] h k = h
some-items kind key (p ∷ l) h k = omega (arith, length-append (items_of p) (items_on l), by p.content.kind)
  where
    by : (b : Kind) → 0 < length (taken_over b p.low p.content.first p.content.items)
    by Leaf = k.0.some
    by Node = omega arith

one-kind : (s t : Kind) (key other : ℕ) (l : List Placed) → 0 < length (names l) → AllByRecursion (IsOf s key) l → AllByRecursion (IsOf t other) l → s ≡ t
one-kind s t key other [] h k j = absurd (omega arith)
one-kind s t key other (p ∷ l) h k j = sym k.0.kind_is ∙ j.0.kind_is

-- two levels that these items name are one, of one kind
record Same (l m : List Placed) (a b : Kind) : Type 0 where
  level : l ≡ m
  kind : a ≡ b
  named : 0 < length (names l)

same-here : (bodies : ℕ → Option (List ℕ)) (count more key other : ℕ) (a b : Kind) (xs : List Item) (l m : List Placed) → 0 < length xs → IsLevel a key xs l → IsLevel b other xs m → AllByRecursion (Holds bodies count) l → AllByRecursion (Holds bodies more) m → Same l m a b
same-here bodies count more key other a b xs l m some t u h k =
    let same : l ≡ m = same-level bodies count more l m (t.named ∙ sym u.named) h k in
    let named : 0 < length (names l) = omega (arith, some, ap length t.named) in
    record { level = same; kind = one-kind a b key other l named t.kinds (subst (AllByRecursion (IsOf b other)) (sym same) u.kinds); named = named }

pub same-levels : (bodies : ℕ → Option (List ℕ)) (count more key other : ℕ) (r s : Bool) (xs : List Item) (l : List Placed) (ls : List (List Placed)) (m : List Placed) (ms : List (List Placed)) (v w : List Item) → 0 < length xs
    → Under r key xs (l ∷ ls) v → Under s other xs (m ∷ ms) w → HoldAll bodies count (l ∷ ls) → HoldAll bodies more (m ∷ ms) → v ≡ w
same-levels bodies count more key other r s xs l [] m [] v w some t u h k =
    let one = same-here bodies count more key other Leaf Leaf xs l m some t.0 u.0 h.0 k.0 in
    t.2 ∙ ap items_on one.level ∙ sym u.2
same-levels bodies count more key other r s xs l [] m (o ∷ ms) v w some t u h k =
    let e : Leaf ≡ Node = (same-here bodies count more key other Leaf Node xs l m some t.0 u.0 h.0 k.0).kind in absurd cc
same-levels bodies count more key other r s xs l (n ∷ ls) m [] v w some t u h k =
    let e : Node ≡ Leaf = (same-here bodies count more key other Node Leaf xs l m some t.0 u.0 h.0 k.0).kind in absurd cc
same-levels bodies count more key other r s xs l (n ∷ ls) m (o ∷ ms) v w some t u h k =
    let one = same-here bodies count more key other Node Node xs l m some t.0 u.0 h.0 k.0 in
    same-levels bodies count more key other false false (items_on l) n ls o ms v w (some-items Node key l one.named t.0.kinds) t.2 (subst (λ (l : List Placed). Under false other (items_on l) (o ∷ ms) w) (sym one.level) u.2) h.1 k.1

-- the entries of a tree are told by its pages
pub one-walk : (bodies : ℕ → Option (List ℕ)) (count more key other root : ℕ) (ls ms : List (List Placed)) (v w : List Item) → IsTree bodies count key root ls v → IsTree bodies more other root ms w → v ≡ w
one-walk bodies count more key other root [] ms v w t u = absurd (omega (arith, t.some))
one-walk bodies count more key other root (l ∷ ls) [] v w t u = absurd (omega (arith, u.some))
one-walk bodies count more key other root (l ∷ ls) (m ∷ ms) v w t u = same-levels bodies count more key other true true (top root) l ls m ms v w (omega arith) t.under u.under t.hold u.hold
