-- A search for where a leaf begins comes to that leaf's first item.
use Rattle.std.proofs.Common.{◌≡◌, ℕ, ◌<◌, Bool, true, false, List, [], ◌∷◌, ◌++◌, length, Option, Some, refl, sym, ap, subst, ◌∙◌, arith, append_assoc}
use Rattle.std.specs.List.{AllByRecursion, prefix_len}
use Rattle.aria_keypage.specs.declared.kind.Kind.{Kind}
use Rattle.aria_keypage.specs.declared.kind.Kind.TheVariants.{Leaf}
use Rattle.aria_keypage.specs.Item.{Item, is_below}
use Rattle.aria_keypage.specs.Merge.{taken_over}
use Rattle.aria_key.specs.declared.path.Passed.{Passed}
use Rattle.aria_key.specs.Tree.{Placed, names, name_of, Rising, Bounded, IsOf}
use Rattle.aria_key.specs.Climb.{onto}
use Rattle.aria_key.specs.Place.{IsFound}
use Rattle.aria_key.specs.Rest.{next_low}
use Rattle.aria_key.specs.Cursor.{HasRest}
use Rattle.aria_key.proofs.Lists.{all-at, all-mapped}
use Rattle.aria_key.proofs.Order.{not-back}
use Rattle.aria_key.proofs.Descending.{bounded-right}
use Rattle.aria_key.proofs.Climbing.{names-rise}
use Rattle.aria_key.proofs.Behind.{same-last}

-- levels under others end with themselves
record Stack (us ds : List (List Placed)) : Type 0 where
  pub front : List (List Placed)
  pub parts : onto us ds ≡ front ++ ds

stack : (us ds : List (List Placed)) → Stack us ds
stack [] ds = record { front = []; parts = refl }
stack (u ∷ us) ds = let s = stack us (u ∷ ds) in record { front = s.front ++ u ∷ []; parts = s.parts ∙ sym (append_assoc s.front (u ∷ []) ds) }

-- so the leaves of a tree are one level
leaves-one : (us vs levels : List (List Placed)) (l m : List Placed) → onto us (l ∷ []) ≡ levels → onto vs (m ∷ []) ≡ levels → l ≡ m
leaves-one us vs levels l m p q =
    let a = stack us (l ∷ []) in
    let b = stack vs (m ∷ []) in
    (same-last a.front b.front l m (sym a.parts ∙ p ∙ sym q ∙ b.parts)).1

never : (a : List ℕ) → is_below a a ≡ true → ⊥
never a e = let n = not-back a a e in absurd cc

-- the page in whose bounds the low of a page lies is that page
same-page : (a : List Placed) (q : Placed) (b : List Placed) (c : List Placed) (p : Placed) (d : List Placed) → a ++ q ∷ b ≡ c ++ p ∷ d → Rising (names (a ++ q ∷ b)) → is_below q.low p.low ≡ false → AllByRecursion (λ r. is_below q.low r.low ≡ true) d → p ≡ q
same-page [] q b [] p d e rises low high = cc
same-page [] q b (z ∷ c) p d e rises low high =
    let rest : b ≡ c ++ p ∷ d = cc in
    let above : AllByRecursion (λ r. is_below q.low r.low ≡ true) b = all-mapped name_of (λ y. is_below q.low y.entry ≡ true) b rises.0 in
    let up : is_below q.low p.low ≡ true = all-at (λ r. is_below q.low r.low ≡ true) c p d b rest above in
    absurd cc
same-page (x ∷ a) q b [] p d e rises low high =
    let rest : d ≡ a ++ q ∷ b = cc in
    absurd (never q.low (all-at (λ r. is_below q.low r.low ≡ true) a q b d rest high))
same-page (x ∷ a) q b (z ∷ c) p d e rises low high =
    let rest : a ++ q ∷ b ≡ c ++ p ∷ d = cc in
    same-page a q b c p d rest rises.1 low high

-- no item is in front of an entry that none is below
none-ahead : (entry : List ℕ) (xs : List Item) → 0 < length xs → AllByRecursion (λ x. is_below x.entry entry ≡ false) xs → prefix_len (λ x. is_below x.entry entry) xs ≡ 0
none-ahead entry [] h all = refl
none-ahead entry (x ∷ xs) h all = rw all.0 refl

-- the first item of the next leaf is found by that leaf's low
pub lands : (bodies : ℕ → Option (List ℕ)) (count root page at : ℕ) (next : Option (List ℕ)) (low : List ℕ) (rest : List Item) (there place : ℕ) (same : Bool) (path : List Passed) → (h : HasRest bodies count root page at next rest) → next ≡ Some low
    → (f : IsFound bodies count h.key root low h.levels h.walk there place same path) → place < length f.on.here.content.items
lands bodies count root page at next low rest there place same path h known f = by h.cursor.behind (sym known ∙ h.cursor.next_is) h.cursor.parts
  where
    by : (b : List Placed) → Some low ≡ next_low b → h.leaves ≡ h.cursor.before ++ h.cursor.here ∷ b → place < length f.on.here.content.items
    by [] e parts = absurd cc
    by (q ∷ b) e parts =
        let is : low ≡ q.low = cc in
        let a : List Placed = h.cursor.before ++ h.cursor.here ∷ [] in
        let p : Placed = f.on.here in
        let split : f.leaves ≡ a ++ q ∷ b = leaves-one f.ups h.ups h.levels f.leaves h.leaves f.whole h.whole ∙ parts ∙ sym (append_assoc h.cursor.before (h.cursor.here ∷ []) (q ∷ b)) in
        let rises : Rising (names (a ++ q ∷ b)) = subst (λ (m : List Placed). Rising (names m)) split (subst Rising (sym f.under.0.named) (names-rise Leaf h.key _ f.leaves f.under.0)) in
        let under : is_below q.low p.low ≡ false = subst (λ (l : List ℕ). is_below l p.low ≡ false) is f.on.low in
        let over : AllByRecursion (λ r. is_below q.low r.low ≡ true) f.on.behind = subst (λ (l : List ℕ). AllByRecursion (λ r. is_below l r.low ≡ true) f.on.behind) is f.on.high in
        let one : p ≡ q = same-page a q b f.on.before p f.on.behind (sym split ∙ f.on.parts) rises under over in
        let kind : IsOf Leaf h.key p = all-at (IsOf Leaf h.key) f.on.before p f.on.behind f.leaves f.on.parts f.under.0.kinds in
        let bounded = (bounded-right f.on.before (p ∷ f.on.behind) (subst Bounded f.on.parts f.under.0.bounded)).0 in
        let own : AllByRecursion (λ x. is_below x.entry p.low ≡ false) p.content.items = subst (λ (t : Kind). AllByRecursion (λ x. is_below x.entry p.low ≡ false) (taken_over t p.low p.content.first p.content.items)) kind.kind_is bounded in
        let lows : p.low ≡ low = ap (λ (r : Placed). r.low) one ∙ sym is in
        let all : AllByRecursion (λ x. is_below x.entry low ≡ false) p.content.items = subst (λ (l : List ℕ). AllByRecursion (λ x. is_below x.entry l ≡ false) p.content.items) lows own in
        let first : place ≡ 0 = f.place.first ∙ none-ahead low p.content.items kind.some all in
        omega (arith, first, kind.some)
