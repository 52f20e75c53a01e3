-- How many levels a tree has: each level has four times as many pages as the one above it, at least.
use Rattle.std.proofs.Common.{◌≡◌, ℕ, zero, suc, ◌*◌, ◌<◌, ◌≤◌, false, List, [], ◌∷◌, length, refl, sym, ◌∙◌, ap, arith, length-append, inl, inr}
use Rattle.std.specs.Prelude.{Option}
use Rattle.std.specs.List.{AllByRecursion}
use Rattle.std.proofs.lemmas.Bool.{cases_lt}
use Rattle.std.proofs.lemmas.List.{length-map}
use Rattle.aria_keypage.specs.declared.kind.Kind.{Kind}
use Rattle.aria_keypage.specs.declared.kind.Kind.TheVariants.{Leaf, Node}
use Rattle.aria_keypage.specs.Item.{Item}
use Rattle.aria_keypage.specs.Merge.{taken_over}
use Rattle.aria_keypage.proofs.Sizes.{three-items}
use Rattle.aria_key.specs.Tree.{Placed, items_of, name_of, items_on, names, IsOf, IsLevel, Filled, Under, Holds, HoldAll, top, IsTree}

-- how many items a page of a kind has at least
abbrev pub least : Kind → ℕ
least Leaf = 2
least Node = 4

-- as many on a level for each of its pages
level-items : (bodies : ℕ → Option (List ℕ)) (count key : ℕ) (kind : Kind) (l : List Placed) → AllByRecursion (IsOf kind key) l → Filled l → AllByRecursion (Holds bodies count) l → least kind * length l ≤ length (items_on l)
level-items bodies count key kind [] k f h = omega arith
level-items bodies count key kind (p ∷ l) k f h = both kind (one kind k.0.kind_is) (level-items bodies count key kind l k.1 f.1 h.1)
  where
    three : 3 ≤ length p.content.items
    three = three-items p.content h.0.spells.content f.0

    one : (kind : Kind) → p.content.kind ≡ kind → least kind ≤ length (items_of p)
    one Leaf e = let is : items_of p ≡ p.content.items = ap (λ (t : Kind). taken_over t p.low p.content.first p.content.items) e in omega (arith, three, ap length is)
    one Node e = let is : items_of p ≡ record { entry = p.low; to = p.content.first } ∷ p.content.items = ap (λ (t : Kind). taken_over t p.low p.content.first p.content.items) e in omega (arith, three, ap length is)

    both : (kind : Kind) → least kind ≤ length (items_of p) → least kind * length l ≤ length (items_on l) → least kind * length (p ∷ l) ≤ length (items_on (p ∷ l))
    both Leaf a b = omega (arith, a, b, length-append (items_of p) (items_on l))
    both Node a b = omega (arith, a, b, length-append (items_of p) (items_on l))

count-names : (l : List Placed) (xs : List Item) → names l ≡ xs → length l ≡ length xs
count-names l xs e = sym (length-map l name_of) ∙ ap length e

-- the entries below a level
entries-below : (bodies : ℕ → Option (List ℕ)) (count key : ℕ) (xs : List Item) (l : List Placed) (ls : List (List Placed)) (walk : List Item) → Under false key xs (l ∷ ls) walk → HoldAll bodies count (l ∷ ls) → 2 * length xs ≤ length walk
entries-below bodies count key xs l [] walk u h =
    omega (arith, level-items bodies count key Leaf l u.0.kinds (u.1 refl) h.0, count-names l xs u.0.named, ap length u.2)
entries-below bodies count key xs l (m ∷ ms) walk u h =
    omega (arith, level-items bodies count key Node l u.0.kinds (u.1 refl) h.0, count-names l xs u.0.named, entries-below bodies count key (items_on l) m ms walk u.2 h.1)

-- a number, four times as large on each of so many levels
abbrev pub spread : ℕ → ℕ → ℕ
spread zero n = n
spread (suc k) n = spread k (4 * n)

-- so many levels further down
entries-far : (bodies : ℕ → Option (List ℕ)) (count key : ℕ) (k n : ℕ) (xs : List Item) (l : List Placed) (ls : List (List Placed)) (walk : List Item) → Under false key xs (l ∷ ls) walk → HoldAll bodies count (l ∷ ls) → k ≤ length ls → n ≤ length xs → 2 * spread k n ≤ length walk
entries-far bodies count key zero n xs l ls walk u h far many = omega (arith, many, entries-below bodies count key xs l ls walk u h)
entries-far bodies count key (suc k) n xs l [] walk u h far many = absurd (omega (arith, far))
entries-far bodies count key (suc k) n xs l (m ∷ ms) walk u h far many =
    entries-far bodies count key k (4 * n) (items_on l) m ms walk u.2 h.1 (omega (arith, far)) (omega (arith, many, level-items bodies count key Node l u.0.kinds (u.1 refl) h.0, count-names l xs u.0.named))

-- a root that is a node has two children at least
root-items : (key root : ℕ) (l : List Placed) → IsLevel Node key (top root) l → 2 ≤ length (items_on l)
root-items key root [] h = absurd (omega (arith, ap length h.named))
root-items key root (p ∷ l) h =
    let is : items_of p ≡ record { entry = p.low; to = p.content.first } ∷ p.content.items = ap (λ (t : Kind). taken_over t p.low p.content.first p.content.items) h.kinds.0.kind_is in
    omega (arith, ap length is, h.kinds.0.some, length-append (items_of p) (items_on l))

eleven : spread 11 2 ≡ 8388608
eleven = refl

-- a tree of fewer than 2^24 entries has twelve levels at most
pub twelve : (bodies : ℕ → Option (List ℕ)) (count key root : ℕ) (levels : List (List Placed)) (walk : List Item) → IsTree bodies count key root levels walk → length walk < 16777216 → length levels ≤ 12
twelve bodies count key root [] walk t few = omega arith
twelve bodies count key root (l ∷ []) walk t few = omega arith
twelve bodies count key root (l ∷ m ∷ ms) walk t few = elim (cases_lt (length ms) 11) as (λ _. length (l ∷ m ∷ ms) ≤ 12) [
  | inl lt ↦ omega (arith, lt)
  | inr ge ↦ absurd (omega (arith, few, eleven, entries-far bodies count key 11 2 (items_on l) m ms walk t.under.2 t.hold.1 (omega (arith, ge)) (root-items key root l t.under.0)))
]
