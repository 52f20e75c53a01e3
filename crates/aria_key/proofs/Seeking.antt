-- Reading a tree's entries from one on.
use Rattle.std.proofs.Common.{◌≡◌, ℕ, ◌+◌, ◌<◌, ◌≤◌, Bool, true, false, cond, Option, Some, None, List, [], ◌∷◌, ◌++◌, length, take, drop, refl, sym, ap, subst, ◌∙◌, append_assoc}
use Rattle.std.specs.List.{AllByRecursion}
use Rattle.std.proofs.lemmas.List.{take_at, drop_at, drop_all}
use Rattle.aria_keypage.specs.declared.kind.Kind.{Kind}
use Rattle.aria_keypage.specs.declared.kind.Kind.TheVariants.{Leaf}
use Rattle.aria_keypage.specs.Item.{Item, item_at, is_below}
use Rattle.aria_keypage.specs.Merge.{taken_over}
use Rattle.aria_key.specs.declared.path.Passed.{Passed}
use Rattle.aria_key.specs.Tree.{Placed, items_of, name_of, names, items_on, Rising, Bounded, IsOf, IsLevel}
use Rattle.aria_key.specs.Place.{IsFound}
use Rattle.aria_key.specs.Rest.{from, next_low, IsCursor}
use Rattle.aria_key.proofs.Lists.{drop-at, all-append, all-at, all-weaker, all-mapped}
use Rattle.aria_key.proofs.Order.{not-back, below-up, rising-right, Parted, parted}
use Rattle.aria_key.proofs.Descending.{items-append, bounded-right, items-high, page-rises}
use Rattle.aria_key.proofs.Bounds.{under-first, flat-under, names-append}
use Rattle.aria_key.proofs.Climbing.{names-rise}
use Rattle.aria_key.proofs.Changing.{items-around}
use Rattle.aria_keypage.proofs.Fans.{fan_before, fan-parts}

from-at : (entry : List ℕ) (front back : List Item) → AllByRecursion (λ x. is_below x.entry entry ≡ true) front → AllByRecursion (λ x. is_below x.entry entry ≡ false) back → from entry (front ++ back) ≡ back
from-at entry [] [] p q = refl
from-at entry [] (y ∷ back) p q = ap (λ (b : Bool). cond b (from entry back) (y ∷ back)) q.0
from-at entry (x ∷ front) back p q = ap (λ (b : Bool). cond b (from entry (front ++ back)) (x ∷ (front ++ back))) p.0 ∙ from-at entry front back p.1 q

-- what is left from where a search came
pub seek-rest : (bodies : ℕ → Option (List ℕ)) (count key root : ℕ) (entry : List ℕ) (levels : List (List Placed)) (walk : List Item) (page at : ℕ) (same : Bool) (path : List Passed) → (f : IsFound bodies count key root entry levels walk page at same path)
    → IsCursor f.leaves page at (next_low f.on.behind) (from entry walk)
seek-rest bodies count key root entry levels walk page at same path f =
    let p : Placed = f.on.here in
    let a : List Placed = f.on.before in
    let b : List Placed = f.on.behind in
    let items : List Item = p.content.items in
    let kinds : AllByRecursion (IsOf Leaf key) (a ++ p ∷ b) = subst (AllByRecursion (IsOf Leaf key)) f.on.parts f.under.0.kinds in
    let bounded : Bounded (a ++ p ∷ b) = subst Bounded f.on.parts f.under.0.bounded in
    let leaf : p.content.kind ≡ Leaf = (all-at (IsOf Leaf key) a p b (a ++ p ∷ b) refl kinds).kind_is in
    let rises : Rising items = subst Rising (ap (λ (t : Kind). taken_over t p.low p.content.first items) leaf) (page-rises a b p f.leaves f.on.parts f.under.0.rising) in
    let h : Parted entry items at = subst (Parted entry items) (sym f.place.first) (parted entry items rises) in
    let front : take at items ≡ h.lower = ap (take at) h.parts ∙ take_at h.lower h.upper at h.count in
    let back : drop at items ≡ h.upper = ap (drop at) h.parts ∙ drop_at h.lower h.upper at h.count in
    let own : fan_before p.low p.content at ≡ take at items = ap (λ (t : Kind). taken_over t p.low p.content.first (take at items)) leaf in
    let was : walk ≡ (items_on a ++ fan_before p.low p.content at) ++ (drop at items ++ items_on b) = f.under.2 ∙ ap items_on f.on.parts ∙ items-around a b p (fan_before p.low p.content at) (drop at items) (fan-parts p.low p.content at) in
    let lower : AllByRecursion (λ x. is_below x.entry entry ≡ true) (items_on a ++ fan_before p.low p.content at) =
    all-append (λ x. is_below x.entry entry ≡ true) (items_on a) (fan_before p.low p.content at)
    (all-weaker (λ x. is_below x.entry p.low ≡ true) (λ x. is_below x.entry entry ≡ true) (items_on a) (λ x e. below-up x.entry p.low entry e f.on.low) (flat-under a p.low (under-first a b p bounded)))
    (subst (AllByRecursion (λ x. is_below x.entry entry ≡ true)) (sym (own ∙ front)) h.below) in
    let upper : AllByRecursion (λ x. is_below x.entry entry ≡ false) (drop at items ++ items_on b) =
    all-append (λ x. is_below x.entry entry ≡ false) (drop at items) (items_on b) (subst (AllByRecursion (λ x. is_below x.entry entry ≡ false)) (sym back) h.above)
    (all-weaker (λ x. is_below entry x.entry ≡ true) (λ x. is_below x.entry entry ≡ false) (items_on b) (λ x e. not-back entry x.entry e) (items-high entry b (bounded-right a (p ∷ b) bounded).2 f.on.high)) in
    record {
      before = a;
      here = p;
      behind = b;
      parts = f.on.parts;
      page_is = f.on.page_is;
      next_is = refl;
      rest_is = ap (from entry) was ∙ from-at entry (items_on a ++ fan_before p.low p.content at) (drop at items ++ items_on b) lower upper;
    }

-- the item at the cursor comes next
pub next-here : (leaves : List Placed) (page at : ℕ) (next : Option (List ℕ)) (rest : List Item) → (c : IsCursor leaves page at next rest) → at < length c.here.content.items
    → (rest ≡ item_at c.here.content.items at ∷ (drop (at + 1) c.here.content.items ++ items_on c.behind)) × IsCursor leaves page (at + 1) next (drop (at + 1) c.here.content.items ++ items_on c.behind)
next-here leaves page at next rest c low = (
  c.rest_is ∙ ap (λ (m : List Item). m ++ items_on c.behind) (drop-at c.here.content.items at low),
  record { before = c.before; here = c.here; behind = c.behind; parts = c.parts; page_is = c.page_is; next_is = c.next_is; rest_is = refl },
)

-- behind the last item of the last leaf nothing is left
pub next-none : (leaves : List Placed) (page at : ℕ) (rest : List Item) → (c : IsCursor leaves page at None rest) → length c.here.content.items ≤ at → rest ≡ []
next-none leaves page at rest c high = by c.behind c.next_is (c.rest_is ∙ ap (λ (m : List Item). m ++ items_on c.behind) (drop_all at c.here.content.items high))
  where
    by : (b : List Placed) → None ≡ next_low b → rest ≡ items_on b → rest ≡ []
    by [] e r = r
    by (q ∷ b) e r = absurd cc

-- and behind that of another, what is left is what a search for the next leaf's low gives
pub next-leaf : (leaves : List Placed) (key page at : ℕ) (low : List ℕ) (rest xs : List Item) → IsLevel Leaf key xs leaves → (c : IsCursor leaves page at (Some low) rest) → length c.here.content.items ≤ at → rest ≡ from low (items_on leaves)
next-leaf leaves key page at low rest xs level c high = by c.behind c.next_is c.parts (c.rest_is ∙ ap (λ (m : List Item). m ++ items_on c.behind) (drop_all at c.here.content.items high))
  where
    by : (b : List Placed) → Some low ≡ next_low b → leaves ≡ c.before ++ c.here ∷ b → rest ≡ items_on b → rest ≡ from low (items_on leaves)
    by [] e parts r = absurd cc
    by (q ∷ b) e parts r =
        let same : low ≡ q.low = cc in
        let a : List Placed = c.before ++ c.here ∷ [] in
        let split : leaves ≡ a ++ q ∷ b = parts ∙ sym (append_assoc c.before (c.here ∷ []) (q ∷ b)) in
        let bounded : Bounded (a ++ q ∷ b) = subst Bounded split level.bounded in
        let own = bounded-right a (q ∷ b) bounded in
        let lower : AllByRecursion (λ x. is_below x.entry q.low ≡ true) (items_on a) = flat-under a q.low (under-first a b q bounded) in
        let lows : AllByRecursion (λ r. is_below q.low r.low ≡ true) b = all-mapped name_of (λ x. is_below q.low x.entry ≡ true) b (rising-right (names a) (names (q ∷ b)) (subst Rising (sym level.named ∙ ap (λ (m : List Placed). names m) split ∙ names-append a (q ∷ b)) (names-rise Leaf key xs leaves level))).0 in
        let upper : AllByRecursion (λ x. is_below x.entry q.low ≡ false) (items_on (q ∷ b)) =
        all-append (λ x. is_below x.entry q.low ≡ false) (items_of q) (items_on b) own.0 (later b own.2 lows) in
        r ∙ sym (ap (from low) (ap items_on split ∙ items-append a (q ∷ b)) ∙ ap (λ (l : List ℕ). from l (items_on a ++ items_on (q ∷ b))) same ∙ from-at q.low (items_on a) (items_on (q ∷ b)) lower upper)
      where
        later : (b : List Placed) → Bounded b → AllByRecursion (λ r. is_below q.low r.low ≡ true) b → AllByRecursion (λ x. is_below x.entry q.low ≡ false) (items_on b)
        later b k u = all-weaker (λ x. is_below q.low x.entry ≡ true) (λ x. is_below x.entry q.low ≡ false) (items_on b) (λ x e. not-back q.low x.entry e) (items-high q.low b k u)
