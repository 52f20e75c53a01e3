-- The bounds of the pages of a level, in pieces.
use Rattle.std.proofs.Common.{◌≡◌, ℕ, true, false, List, [], ◌∷◌, ◌++◌, sym, subst}
use Rattle.std.specs.List.{AllByRecursion}
use Rattle.std.proofs.lemmas.List.{map-append}
use Rattle.aria_keypage.specs.Item.{is_below}
use Rattle.aria_key.specs.Tree.{Placed, items_of, name_of, items_on, names, Bounded}
use Rattle.aria_key.proofs.Lists.{all-append, all-left, all-right, all-weaker}
use Rattle.aria_key.proofs.Order.{below-up}

-- the items of some pages are below the bounds of others
abbrev pub IsUnder : List ℕ → Placed → Type 0
IsUnder low p = AllByRecursion (λ x. is_below x.entry low ≡ true) (items_of p)

abbrev pub Across : List Placed → List Placed → Type 0
Across a b = AllByRecursion (λ p. AllByRecursion (λ q. IsUnder q.low p) b) a

pub bounded-left : (a b : List Placed) → Bounded (a ++ b) → Bounded a
bounded-left [] b h = tt
bounded-left (p ∷ a) b h = (h.0, all-left (λ q. IsUnder q.low p) a b h.1, bounded-left a b h.2)

pub bounded-across : (a b : List Placed) → Bounded (a ++ b) → Across a b
bounded-across [] b h = tt
bounded-across (p ∷ a) b h = (all-right (λ q. IsUnder q.low p) a b h.1, bounded-across a b h.2)

pub bounded-both : (a b : List Placed) → Bounded a → Bounded b → Across a b → Bounded (a ++ b)
bounded-both [] b h k r = k
bounded-both (p ∷ a) b h k r = (h.0, all-append (λ q. IsUnder q.low p) a b h.1 r.0, bounded-both a b h.2 k r.1)

-- what is below a bound is below one that isn't below that
pub across-higher : (a : List Placed) (low : List ℕ) (b : List Placed) → AllByRecursion (IsUnder low) a → AllByRecursion (λ q. is_below q.low low ≡ false) b → Across a b
across-higher a low b h k =
    all-weaker (IsUnder low) (λ p. AllByRecursion (λ q. IsUnder q.low p) b) a
    (λ p u. all-weaker (λ q. is_below q.low low ≡ false) (λ q. IsUnder q.low p) b
    (λ q n. all-weaker (λ x. is_below x.entry low ≡ true) (λ x. is_below x.entry q.low ≡ true) (items_of p) (λ x e. below-up x.entry low q.low e n) u) k) h

-- the items of pages to the left of one are below it
pub under-first : (a b : List Placed) (p : Placed) → Bounded (a ++ p ∷ b) → AllByRecursion (IsUnder p.low) a
under-first a b p h = all-weaker (λ q. AllByRecursion (λ r. IsUnder r.low q) (p ∷ b)) (IsUnder p.low) a (λ q u. u.0) (bounded-across a (p ∷ b) h)

pub flat-under : (a : List Placed) (low : List ℕ) → AllByRecursion (IsUnder low) a → AllByRecursion (λ x. is_below x.entry low ≡ true) (items_on a)
flat-under [] low h = tt
flat-under (p ∷ a) low h = all-append (λ x. is_below x.entry low ≡ true) (items_of p) (items_on a) h.0 (flat-under a low h.1)

-- one page in the place of another with the same bound
pub bounded-instead : (a b : List Placed) (p q : Placed) → Bounded (a ++ p ∷ b) → q.low ≡ p.low → Bounded (q ∷ b) → Bounded (a ++ q ∷ b)
bounded-instead a b p q h e own =
    bounded-both a (q ∷ b) (bounded-left a (p ∷ b) h) own
    (all-weaker (λ r. AllByRecursion (λ s. IsUnder s.low r) (p ∷ b)) (λ r. AllByRecursion (λ s. IsUnder s.low r) (q ∷ b)) a (λ r u. (subst (λ l. IsUnder l r) (sym e) u.0, u.1)) (bounded-across a (p ∷ b) h))

pub names-append : (a b : List Placed) → names (a ++ b) ≡ names a ++ names b
names-append a b = map-append name_of a b
