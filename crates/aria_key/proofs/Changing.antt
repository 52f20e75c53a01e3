-- The steps of which each change of a level is made: an item is put or taken, a page is divided, two are joined.
use Rattle.std.proofs.Common.{◌≡◌, ℕ, Bool, true, false, List, [], ◌∷◌, ◌++◌, refl, sym, ap, subst, ◌∙◌, append_assoc}
use Rattle.std.specs.List.{AllByRecursion}
use Rattle.aria_keypage.specs.declared.kind.Kind.{Kind}
use Rattle.aria_keypage.specs.Item.{Item, is_below}
use Rattle.aria_key.specs.Tree.{Placed, items_of, name_of, items_on, names, Rising, IsOf, IsLevel}
use Rattle.aria_key.specs.Step.{Has, IsBetween}
use Rattle.aria_key.proofs.Lists.{all-append, all-left, all-right, all-weaker}
use Rattle.aria_key.proofs.Order.{up-below, not-back, below-up, rising-left, rising-right, rising-across, rising-both}
use Rattle.aria_key.proofs.Descending.{items-append, bounded-right, items-high}
use Rattle.aria_key.proofs.Bounds.{IsUnder, Across, bounded-left, bounded-across, bounded-both, across-higher, under-first, flat-under, bounded-instead, names-append}

-- all items are not below an entry, or below it
abbrev pub AtLeast : List ℕ → List Item → Type 0
AtLeast low xs = AllByRecursion (λ y. is_below y.entry low ≡ false) xs

abbrev pub AllBelow : List ℕ → List Item → Type 0
AllBelow low xs = AllByRecursion (λ y. is_below y.entry low ≡ true) xs

-- pages in the place of another
all-instead : {X : Type 0} (P : X → Type 0) (a b new : List X) (p : X) → AllByRecursion P (a ++ p ∷ b) → AllByRecursion P new → AllByRecursion P (a ++ (new ++ b))
all-instead P a b new p h k = all-append P a (new ++ b) (all-left P a (p ∷ b) h) (all-append P new b k (all-right P a (p ∷ b) h).1)

-- the items of a level with a page whose items are in two pieces
pub items-around : (a b : List Placed) (p : Placed) (f g : List Item) → items_of p ≡ f ++ g → items_on (a ++ p ∷ b) ≡ (items_on a ++ f) ++ (g ++ items_on b)
items-around a b p f g e =
    items-append a (p ∷ b) ∙ ap (λ (m : List Item). items_on a ++ (m ++ items_on b)) e ∙ ap (λ (m : List Item). items_on a ++ m) (append_assoc f g (items_on b)) ∙ sym (append_assoc (items_on a) f (g ++ items_on b))

rising-more : (f g : List Item) (x : Item) → Rising (f ++ g) → IsBetween f x.entry g → Rising (f ++ x ∷ g)
rising-more f g x r is =
    rising-both f (x ∷ g) (rising-left f g r) (is.above, rising-right f g r)
    (both f is.below (rising-across f g r))
  where
    both : (m : List Item) → AllByRecursion (λ y. is_below y.entry x.entry ≡ true) m → AllByRecursion (λ y. AllByRecursion (λ z. is_below y.entry z.entry ≡ true) g) m → AllByRecursion (λ y. AllByRecursion (λ z. is_below y.entry z.entry ≡ true) (x ∷ g)) m
    both [] p q = tt
    both (y ∷ m) p q = ((p.0, q.0), both m p.1 q.1)

-- an item is put into a page
pub put-item : (kind : Kind) (key : ℕ) (xs : List Item) (a b : List Placed) (p q : Placed) (f g : List Item) (x : Item) → IsLevel kind key xs (a ++ p ∷ b)
    → items_of p ≡ f ++ g → items_of q ≡ f ++ x ∷ g → q.low ≡ p.low → q.page ≡ p.page → IsOf kind key q
    → IsBetween f x.entry g → is_below x.entry p.low ≡ false → AllByRecursion (λ r. is_below x.entry r.low ≡ true) b
    → Has kind key xs (a ++ q ∷ b) ((items_on a ++ f) ++ x ∷ (g ++ items_on b))
put-item kind key xs a b p q f g x h ep eq elow epage its is low high =
    let old : items_on (a ++ p ∷ b) ≡ (items_on a ++ f) ++ (g ++ items_on b) = items-around a b p f g ep in
    let new : items_on (a ++ q ∷ b) ≡ (items_on a ++ f) ++ x ∷ (g ++ items_on b) = items-around a b q f (x ∷ g) eq in
    let left : AllByRecursion (λ y. is_below y.entry x.entry ≡ true) (items_on a) =
    all-weaker (λ y. is_below y.entry p.low ≡ true) (λ y. is_below y.entry x.entry ≡ true) (items_on a) (λ y e. below-up y.entry p.low x.entry e low) (flat-under a p.low (under-first a b p h.bounded)) in
    let own = bounded-right a (p ∷ b) h.bounded in
    let right : AllByRecursion (λ y. is_below x.entry y.entry ≡ true) (items_on b) = items-high x.entry b own.2 high in
    let between : IsBetween (items_on a ++ f) x.entry (g ++ items_on b) = record {
      below = all-append (λ y. is_below y.entry x.entry ≡ true) (items_on a) f left is.below;
      above = all-append (λ y. is_below x.entry y.entry ≡ true) g (items_on b) is.above right;
    } in
    let from : AllByRecursion (λ y. is_below y.entry p.low ≡ false) (items_of q) =
    subst (AllByRecursion (λ y. is_below y.entry p.low ≡ false)) (sym eq) (more (λ y. is_below y.entry p.low ≡ false) f g x (subst (AllByRecursion (λ y. is_below y.entry p.low ≡ false)) ep own.0) low) in
    let to : AllByRecursion (λ r. IsUnder r.low q) b =
    two b (λ (r : Placed) (u : IsUnder r.low p) (v : is_below x.entry r.low ≡ true). subst (AllByRecursion (λ y. is_below y.entry r.low ≡ true)) (sym eq) (more (λ y. is_below y.entry r.low ≡ true) f g x (subst (AllByRecursion (λ y. is_below y.entry r.low ≡ true)) ep u) v)) own.1 high in
    record {
      level = record {
        named = names-append a (q ∷ b) ∙ (λ i. names a ++ record { entry = elow i; to = epage i } ∷ names b) ∙ sym (names-append a (p ∷ b)) ∙ h.named;
        kinds = all-instead (IsOf kind key) a b (q ∷ []) p h.kinds (its, tt);
        rising = subst Rising (sym new) (rising-more (items_on a ++ f) (g ++ items_on b) x (subst Rising old h.rising) between);
        bounded = bounded-instead a b p q h.bounded elow (subst (λ l. AllByRecursion (λ y. is_below y.entry l ≡ false) (items_of q)) (sym elow) from, to, own.2);
      };
      items_are = new;
    }
  where
    more : (P : Item → Type 0) (f g : List Item) (x : Item) → AllByRecursion P (f ++ g) → P x → AllByRecursion P (f ++ x ∷ g)
    more P f g x h p = all-append P f (x ∷ g) (all-left P f g h) (p, all-right P f g h)

    two : (b : List Placed) → ((r : Placed) → IsUnder r.low p → is_below x.entry r.low ≡ true → IsUnder r.low q) → AllByRecursion (λ r. IsUnder r.low p) b → AllByRecursion (λ r. is_below x.entry r.low ≡ true) b → AllByRecursion (λ r. IsUnder r.low q) b
    two [] k u v = tt
    two (r ∷ b) k u v = (k r u.0 v.0, two b k u.1 v.1)

-- an item is taken out of a page
pub take-item : (kind : Kind) (key : ℕ) (xs : List Item) (a b : List Placed) (p q : Placed) (f g : List Item) (x : Item) → IsLevel kind key xs (a ++ p ∷ b)
    → items_of p ≡ f ++ x ∷ g → items_of q ≡ f ++ g → q.low ≡ p.low → q.page ≡ p.page → IsOf kind key q
    → Has kind key xs (a ++ q ∷ b) ((items_on a ++ f) ++ (g ++ items_on b))
take-item kind key xs a b p q f g x h ep eq elow epage its =
    let old : items_on (a ++ p ∷ b) ≡ (items_on a ++ f) ++ x ∷ (g ++ items_on b) = items-around a b p f (x ∷ g) ep in
    let new : items_on (a ++ q ∷ b) ≡ (items_on a ++ f) ++ (g ++ items_on b) = items-around a b q f g eq in
    let own = bounded-right a (p ∷ b) h.bounded in
    let less = λ (P : Item → Type 0) (u : AllByRecursion P (items_of p)). subst (AllByRecursion P) (sym eq) (fewer P (subst (AllByRecursion P) ep u)) in
    record {
      level = record {
        named = names-append a (q ∷ b) ∙ (λ i. names a ++ record { entry = elow i; to = epage i } ∷ names b) ∙ sym (names-append a (p ∷ b)) ∙ h.named;
        kinds = all-instead (IsOf kind key) a b (q ∷ []) p h.kinds (its, tt);
        rising = subst Rising (sym new) (rising-less (items_on a ++ f) (g ++ items_on b) (subst Rising old h.rising));
        bounded = bounded-instead a b p q h.bounded elow (
          subst (λ l. AllByRecursion (λ y. is_below y.entry l ≡ false) (items_of q)) (sym elow) (less (λ y. is_below y.entry p.low ≡ false) own.0),
          all-weaker (λ r. IsUnder r.low p) (λ r. IsUnder r.low q) b (λ r u. less (λ y. is_below y.entry r.low ≡ true) u) own.1,
          own.2,
        );
      };
      items_are = new;
    }
  where
    fewer : (P : Item → Type 0) → AllByRecursion P (f ++ x ∷ g) → AllByRecursion P (f ++ g)
    fewer P u = all-append P f g (all-left P f (x ∷ g) u) (all-right P f (x ∷ g) u).1

    rising-less : (m n : List Item) → Rising (m ++ x ∷ n) → Rising (m ++ n)
    rising-less m n r =
        rising-both m n (rising-left m (x ∷ n) r) (rising-right m (x ∷ n) r).1
        (all-weaker (λ y. AllByRecursion (λ z. is_below y.entry z.entry ≡ true) (x ∷ n)) (λ y. AllByRecursion (λ z. is_below y.entry z.entry ≡ true) n) m (λ y u. u.1) (rising-across m (x ∷ n) r))

-- an item is put in the place of another
pub swap-item : (kind : Kind) (key : ℕ) (xs : List Item) (a b : List Placed) (p q : Placed) (f g : List Item) (z x : Item) → IsLevel kind key xs (a ++ p ∷ b)
    → items_of p ≡ f ++ z ∷ g → items_of q ≡ f ++ x ∷ g → q.low ≡ p.low → q.page ≡ p.page → IsOf kind key q
    → IsBetween f x.entry g → is_below x.entry p.low ≡ false → AllByRecursion (λ r. is_below x.entry r.low ≡ true) b
    → Has kind key xs (a ++ q ∷ b) ((items_on a ++ f) ++ x ∷ (g ++ items_on b))
swap-item kind key xs a b p q f g z x h ep eq elow epage its is low high =
    let old : items_on (a ++ p ∷ b) ≡ (items_on a ++ f) ++ z ∷ (g ++ items_on b) = items-around a b p f (z ∷ g) ep in
    let new : items_on (a ++ q ∷ b) ≡ (items_on a ++ f) ++ x ∷ (g ++ items_on b) = items-around a b q f (x ∷ g) eq in
    let left : AllByRecursion (λ y. is_below y.entry x.entry ≡ true) (items_on a) =
    all-weaker (λ y. is_below y.entry p.low ≡ true) (λ y. is_below y.entry x.entry ≡ true) (items_on a) (λ y e. below-up y.entry p.low x.entry e low) (flat-under a p.low (under-first a b p h.bounded)) in
    let own = bounded-right a (p ∷ b) h.bounded in
    let right : AllByRecursion (λ y. is_below x.entry y.entry ≡ true) (items_on b) = items-high x.entry b own.2 high in
    let between : IsBetween (items_on a ++ f) x.entry (g ++ items_on b) = record {
      below = all-append (λ y. is_below y.entry x.entry ≡ true) (items_on a) f left is.below;
      above = all-append (λ y. is_below x.entry y.entry ≡ true) g (items_on b) is.above right;
    } in
    let other = λ (P : Item → Type 0) (u : AllByRecursion P (items_of p)) (v : P x). subst (AllByRecursion P) (sym eq) (instead P (subst (AllByRecursion P) ep u) v) in
    record {
      level = record {
        named = names-append a (q ∷ b) ∙ (λ i. names a ++ record { entry = elow i; to = epage i } ∷ names b) ∙ sym (names-append a (p ∷ b)) ∙ h.named;
        kinds = all-instead (IsOf kind key) a b (q ∷ []) p h.kinds (its, tt);
        rising = subst Rising (sym new) (rising-more (items_on a ++ f) (g ++ items_on b) x (rising-less (items_on a ++ f) (g ++ items_on b) (subst Rising old h.rising)) between);
        bounded = bounded-instead a b p q h.bounded elow (
          subst (λ l. AllByRecursion (λ y. is_below y.entry l ≡ false) (items_of q)) (sym elow) (other (λ y. is_below y.entry p.low ≡ false) own.0 low),
          two b (λ (r : Placed) (u : IsUnder r.low p) (v : is_below x.entry r.low ≡ true). other (λ y. is_below y.entry r.low ≡ true) u v) own.1 high,
          own.2,
        );
      };
      items_are = new;
    }
  where
    instead : (P : Item → Type 0) → AllByRecursion P (f ++ z ∷ g) → P x → AllByRecursion P (f ++ x ∷ g)
    instead P u v = all-append P f (x ∷ g) (all-left P f (z ∷ g) u) (v, (all-right P f (z ∷ g) u).1)

    rising-less : (m n : List Item) → Rising (m ++ z ∷ n) → Rising (m ++ n)
    rising-less m n r =
        rising-both m n (rising-left m (z ∷ n) r) (rising-right m (z ∷ n) r).1
        (all-weaker (λ y. AllByRecursion (λ w. is_below y.entry w.entry ≡ true) (z ∷ n)) (λ y. AllByRecursion (λ w. is_below y.entry w.entry ≡ true) n) m (λ y u. u.1) (rising-across m (z ∷ n) r))

    two : (b : List Placed) → ((r : Placed) → IsUnder r.low p → is_below x.entry r.low ≡ true → IsUnder r.low q) → AllByRecursion (λ r. IsUnder r.low p) b → AllByRecursion (λ r. is_below x.entry r.low ≡ true) b → AllByRecursion (λ r. IsUnder r.low q) b
    two [] k u v = tt
    two (r ∷ b) k u v = (k r u.0 v.0, two b k u.1 v.1)

across-both : (a n b : List Placed) → Across a n → Across a b → Across a (n ++ b)
across-both [] n b p q = tt
across-both (r ∷ a) n b p q = (all-append (λ s. IsUnder s.low r) n b p.0 q.0, across-both a n b p.1 q.1)

itself : (k : List ℕ) → is_below k k ≡ false
itself k = by (is_below k k) refl
  where
    by : (t : Bool) → is_below k k ≡ t → is_below k k ≡ false
    by false e = e
    by true e = not-back k k e

-- a page is divided
pub divide : (kind : Kind) (key : ℕ) (xs : List Item) (a b : List Placed) (p q r : Placed) (f g : List Item) (z : Item) → IsLevel kind key xs (a ++ p ∷ b)
    → items_of p ≡ f ++ z ∷ g → items_of q ≡ f → items_of r ≡ z ∷ g → q.low ≡ p.low → q.page ≡ p.page → r.low ≡ z.entry → IsOf kind key q → IsOf kind key r
    → Has kind key (names a ++ name_of p ∷ name_of r ∷ names b) (a ++ q ∷ r ∷ b) (items_on (a ++ p ∷ b))
divide kind key xs a b p q r f g z h ep eq er elow epage mid kq kr =
    let whole : items_on (a ++ q ∷ r ∷ b) ≡ items_on (a ++ p ∷ b) =
    items-append a (q ∷ r ∷ b) ∙ ap (λ (m : List Item). items_on a ++ m) ((λ i. eq i ++ (er i ++ items_on b)) ∙ sym (append_assoc f (z ∷ g) (items_on b)) ∙ ap (λ (m : List Item). m ++ items_on b) (sym ep)) ∙ sym (items-append a (p ∷ b)) in
    let own = bounded-right a (p ∷ b) h.bounded in
    let rises : Rising (f ++ z ∷ g) = subst Rising ep (rising-left (items_of p) (items_on b) (rising-right (items_on a) (items_of p ++ items_on b) (subst Rising (items-append a (p ∷ b)) h.rising))) in
    let from : AllByRecursion (λ y. is_below y.entry p.low ≡ false) (f ++ z ∷ g) = subst (AllByRecursion (λ y. is_below y.entry p.low ≡ false)) ep own.0 in
    let high : is_below r.low p.low ≡ false = subst (λ l. is_below l p.low ≡ false) (sym mid) (all-right (λ y. is_below y.entry p.low ≡ false) f (z ∷ g) from).0 in
    let across : Across a (q ∷ r ∷ b) =
    across-both a (q ∷ r ∷ []) b (across-higher a p.low (q ∷ r ∷ []) (under-first a b p h.bounded) (subst (λ l. is_below l p.low ≡ false) (sym elow) (itself p.low), (high, tt)))
    (all-weaker (λ s. AllByRecursion (λ t. IsUnder t.low s) (p ∷ b)) (λ s. AllByRecursion (λ t. IsUnder t.low s) b) a (λ s u. u.1) (bounded-across a (p ∷ b) h.bounded)) in
    let own_q : AtLeast q.low (items_of q) = subst (λ l. AtLeast l (items_of q)) (sym elow) (subst (AtLeast p.low) (sym eq) (all-left (λ y. is_below y.entry p.low ≡ false) f (z ∷ g) from)) in
    let q_r : IsUnder r.low q =
    subst (λ l. IsUnder l q) (sym mid) (subst (AllBelow z.entry) (sym eq) (all-weaker (λ y. AllByRecursion (λ w. is_below y.entry w.entry ≡ true) (z ∷ g)) (λ y. is_below y.entry z.entry ≡ true) f (λ y u. u.0) (rising-across f (z ∷ g) rises))) in
    let own_r : AtLeast r.low (items_of r) =
    subst (λ l. AtLeast l (items_of r)) (sym mid) (subst (AtLeast z.entry) (sym er) (itself z.entry, all-weaker (λ y. is_below z.entry y.entry ≡ true) (λ y. is_below y.entry z.entry ≡ false) g (λ y u. not-back z.entry y.entry u) (rising-right f (z ∷ g) rises).0)) in
    let q_b : AllByRecursion (λ t. IsUnder t.low q) b =
    all-weaker (λ t. IsUnder t.low p) (λ t. IsUnder t.low q) b (λ t u. subst (AllBelow t.low) (sym eq) (all-left (λ y. is_below y.entry t.low ≡ true) f (z ∷ g) (subst (AllBelow t.low) ep u))) own.1 in
    let r_b : AllByRecursion (λ t. IsUnder t.low r) b =
    all-weaker (λ t. IsUnder t.low p) (λ t. IsUnder t.low r) b (λ t u. subst (AllBelow t.low) (sym er) (all-right (λ y. is_below y.entry t.low ≡ true) f (z ∷ g) (subst (AllBelow t.low) ep u))) own.1 in
    record {
      level = record {
        named = names-append a (q ∷ r ∷ b) ∙ (λ i. names a ++ record { entry = elow i; to = epage i } ∷ name_of r ∷ names b);
        kinds = all-instead (IsOf kind key) a b (q ∷ r ∷ []) p h.kinds (kq, (kr, tt));
        rising = subst Rising (sym whole) h.rising;
        bounded = bounded-both a (q ∷ r ∷ b) (bounded-left a (p ∷ b) h.bounded) (own_q, (q_r, q_b), (own_r, r_b, own.2)) across;
      };
      items_are = whole;
    }

-- two pages are joined
pub join : (kind : Kind) (key : ℕ) (xs : List Item) (a b : List Placed) (p q r : Placed) (y : Item) (f : List Item) → IsLevel kind key xs (a ++ q ∷ r ∷ b)
    → items_of p ≡ items_of q ++ items_of r → items_of q ≡ y ∷ f → p.low ≡ q.low → p.page ≡ q.page → IsOf kind key p
    → Has kind key (names a ++ name_of q ∷ names b) (a ++ p ∷ b) (items_on (a ++ q ∷ r ∷ b))
join kind key xs a b p q r y f h ep eq elow epage kp =
    let whole : items_on (a ++ p ∷ b) ≡ items_on (a ++ q ∷ r ∷ b) =
    items-append a (p ∷ b) ∙ ap (λ (m : List Item). items_on a ++ m) (ap (λ (m : List Item). m ++ items_on b) ep ∙ append_assoc (items_of q) (items_of r) (items_on b)) ∙ sym (items-append a (q ∷ r ∷ b)) in
    let own = bounded-right a (q ∷ r ∷ b) h.bounded in
    let first : is_below y.entry q.low ≡ false = (subst (AtLeast q.low) eq own.0).0 in
    let last : is_below y.entry r.low ≡ true = (subst (AllBelow r.low) eq own.1.0).0 in
    let higher : is_below r.low q.low ≡ false = not-back q.low r.low (up-below q.low y.entry r.low first last) in
    let own_p : AtLeast p.low (items_of p) =
    subst (λ l. AtLeast l (items_of p)) (sym elow) (subst (AtLeast q.low) (sym ep) (all-append (λ w. is_below w.entry q.low ≡ false) (items_of q) (items_of r) own.0
    (all-weaker (λ w. is_below w.entry r.low ≡ false) (λ w. is_below w.entry q.low ≡ false) (items_of r) (λ w u. not-back q.low w.entry (below-up q.low r.low w.entry (up-below q.low y.entry r.low first last) u)) own.2.0))) in
    let p_b : AllByRecursion (λ t. IsUnder t.low p) b = both b own.1.1 own.2.1 in
    let across : Across a (p ∷ b) =
    all-weaker (λ s. AllByRecursion (λ t. IsUnder t.low s) (q ∷ r ∷ b)) (λ s. AllByRecursion (λ t. IsUnder t.low s) (p ∷ b)) a (λ s u. (subst (λ l. IsUnder l s) (sym elow) u.0, u.1.1)) (bounded-across a (q ∷ r ∷ b) h.bounded) in
    record {
      level = record {
        named = names-append a (p ∷ b) ∙ (λ i. names a ++ record { entry = elow i; to = epage i } ∷ names b);
        kinds = all-append (IsOf kind key) a (p ∷ b) (all-left (IsOf kind key) a (q ∷ r ∷ b) h.kinds) (kp, (all-right (IsOf kind key) a (q ∷ r ∷ b) h.kinds).1.1);
        rising = subst Rising (sym whole) h.rising;
        bounded = bounded-both a (p ∷ b) (bounded-left a (q ∷ r ∷ b) h.bounded) (own_p, p_b, own.2.2) across;
      };
      items_are = whole;
    }
  where
    both : (b : List Placed) → AllByRecursion (λ t. IsUnder t.low q) b → AllByRecursion (λ t. IsUnder t.low r) b → AllByRecursion (λ t. IsUnder t.low p) b
    both [] u v = tt
    both (t ∷ b) u v = (subst (AllBelow t.low) (sym ep) (all-append (λ w. is_below w.entry t.low ≡ true) (items_of q) (items_of r) u.0 v.0), both b u.1 v.1)
