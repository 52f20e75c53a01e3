-- Entries in their order.
use Rattle.std.proofs.Common.{◌≡◌, ℕ, ◌+◌, Bool, true, false, List, [], ◌∷◌, ◌++◌, length, refl, sym, ap, ◌∙◌, arith}
use Rattle.std.specs.List.{AllByRecursion, prefix_len}
use Rattle.std.specs.declared.cmp.Ordering.{Ordering}
use Rattle.std.specs.declared.cmp.Ordering.TheVariants.{Less, Equal, Greater}
use Rattle.std.specs.Ordering.{nat_cmp, is_lt, ordering_reverse}
use Rattle.std.specs.Cmp.Lexicographic.{slice_cmp, nat_list_cmp_total}
use Rattle.aria_keypage.specs.Item.{Item, is_below}
use Rattle.aria_key.specs.Tree.{Rising}
use Rattle.aria_keypage.proofs.Shares.{order-same}
use Rattle.aria_key.proofs.Lists.{all-append, all-left, all-right, all-weaker}

is-less : (o : Ordering) → is_lt o ≡ true → o ≡ Less
is-less Less e = refl
is-less Equal e = absurd cc
is-less Greater e = absurd cc

-- from a below b and b below c
pub below-trans : (a b c : List ℕ) → is_below a b ≡ true → is_below b c ≡ true → is_below a c ≡ true
below-trans a b c p q = ap is_lt (nat_list_cmp_total.trans a b c (is-less (slice_cmp nat_cmp a b) p) (is-less (slice_cmp nat_cmp b c) q))

-- from a not above b and b below c
pub up-below : (a b c : List ℕ) → is_below b a ≡ false → is_below b c ≡ true → is_below a c ≡ true
up-below a b c p q = by (slice_cmp nat_cmp b a) refl
  where
    less : slice_cmp nat_cmp b c ≡ Less
    less = is-less (slice_cmp nat_cmp b c) q

    by : (o : Ordering) → slice_cmp nat_cmp b a ≡ o → is_below a c ≡ true
    by Less e = absurd (let x : is_below b a ≡ true = ap is_lt e in (cc))
    by Equal e = ap is_lt (sym (nat_list_cmp_total.congr b a c e) ∙ less)
    by Greater e = ap is_lt (nat_list_cmp_total.trans a b c (nat_list_cmp_total.antisymm a b ∙ ap ordering_reverse e) less)

-- b is below c, so c isn't below b
pub not-back : (b c : List ℕ) → is_below b c ≡ true → is_below c b ≡ false
not-back b c q = ap is_lt (nat_list_cmp_total.antisymm c b ∙ ap ordering_reverse (is-less (slice_cmp nat_cmp b c) q))

-- from a below b and b not above c
pub below-up : (a b c : List ℕ) → is_below a b ≡ true → is_below c b ≡ false → is_below a c ≡ true
below-up a b c p q = by (slice_cmp nat_cmp c b) refl
  where
    less : slice_cmp nat_cmp a b ≡ Less
    less = is-less (slice_cmp nat_cmp a b) p

    by : (o : Ordering) → slice_cmp nat_cmp c b ≡ o → is_below a c ≡ true
    by Less e = absurd (let x : is_below c b ≡ true = ap is_lt e in (cc))
    by Equal e = ap is_lt (nat_list_cmp_total.antisymm a c ∙ ap ordering_reverse (nat_list_cmp_total.congr c b a e ∙ nat_list_cmp_total.antisymm b a ∙ ap ordering_reverse less))
    by Greater e = ap is_lt (nat_list_cmp_total.trans a b c less (nat_list_cmp_total.antisymm b c ∙ ap ordering_reverse e))

-- two entries of which neither is below the other are the same: one that isn't the other and isn't below it is above it
pub above-unless : (a b : List ℕ) → is_below b a ≡ false → (b ≡ a → ⊥) → is_below a b ≡ true
above-unless a b p other = by (slice_cmp nat_cmp b a) refl
  where
    by : (o : Ordering) → slice_cmp nat_cmp b a ≡ o → is_below a b ≡ true
    by Less e = absurd (let x : is_below b a ≡ true = ap is_lt e in (cc))
    by Equal e = absurd (other (order-same b a e))
    by Greater e = ap is_lt (nat_list_cmp_total.antisymm a b ∙ ap ordering_reverse e)

-- what rises, in pieces
pub rising-left : (xs ys : List Item) → Rising (xs ++ ys) → Rising xs
rising-left [] ys r = tt
rising-left (x ∷ xs) ys r = (all-left (λ y. is_below x.entry y.entry ≡ true) xs ys r.0, rising-left xs ys r.1)

pub rising-right : (xs ys : List Item) → Rising (xs ++ ys) → Rising ys
rising-right [] ys r = r
rising-right (x ∷ xs) ys r = rising-right xs ys r.1

pub rising-across : (xs ys : List Item) → Rising (xs ++ ys) → AllByRecursion (λ x. AllByRecursion (λ y. is_below x.entry y.entry ≡ true) ys) xs
rising-across [] ys r = tt
rising-across (x ∷ xs) ys r = (all-right (λ y. is_below x.entry y.entry ≡ true) xs ys r.0, rising-across xs ys r.1)

pub rising-both : (xs ys : List Item) → Rising xs → Rising ys → AllByRecursion (λ x. AllByRecursion (λ y. is_below x.entry y.entry ≡ true) ys) xs → Rising (xs ++ ys)
rising-both [] ys p q r = q
rising-both (x ∷ xs) ys p q r = (all-append (λ y. is_below x.entry y.entry ≡ true) xs ys p.0 r.0, rising-both xs ys p.1 q r.1)

-- items that rise, parted at an entry
pub record Parted (entry : List ℕ) (items : List Item) (place : ℕ) : Type 0 where
  pub lower : List Item
  pub upper : List Item
  pub parts : items ≡ lower ++ upper
  pub count : length lower ≡ place
  pub below : AllByRecursion (λ x. is_below x.entry entry ≡ true) lower
  pub above : AllByRecursion (λ x. is_below x.entry entry ≡ false) upper

pub parted : (entry : List ℕ) (items : List Item) → Rising items → Parted entry items (prefix_len (λ x. is_below x.entry entry) items)
parted entry [] r = record { lower = []; upper = []; parts = refl; count = refl; below = tt; above = tt }
parted entry (x ∷ items) r = by (is_below x.entry entry) refl (parted entry items r.1)
  where
    by : (b : Bool) → is_below x.entry entry ≡ b → Parted entry items (prefix_len (λ y. is_below y.entry entry) items) → Parted entry (x ∷ items) (prefix_len (λ y. is_below y.entry entry) (x ∷ items))
    by true e h =
        let more : prefix_len (λ y. is_below y.entry entry) (x ∷ items) ≡ 1 + prefix_len (λ y. is_below y.entry entry) items = rw e refl in
        record { lower = x ∷ h.lower; upper = h.upper; parts = ap (λ m. x ∷ m) h.parts; count = omega (arith, h.count, more); below = (e, h.below); above = h.above }
    by false e h =
        let none : prefix_len (λ y. is_below y.entry entry) (x ∷ items) ≡ 0 = rw e refl in
        record {
          lower = [];
          upper = x ∷ items;
          parts = refl;
          count = sym none;
          below = tt;
          above = (e, all-weaker (λ y. is_below x.entry y.entry ≡ true) (λ y. is_below y.entry entry ≡ false) items (λ y q. not-back entry y.entry (up-below entry x.entry y.entry e q)) r.0);
        }
