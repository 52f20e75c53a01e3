-- Two pages side by side that one node names.
use Rattle.std.proofs.Common.{◌≡◌, ◌⊎◌, ℕ, zero, suc, ◌+◌, ◌<◌, ◌≤◌, List, [], ◌∷◌, ◌++◌, length, refl, sym, ap, subst, ◌∙◌, add-one, arith, length-append, inl, inr}
use Rattle.std.proofs.lemmas.List.{length-map}
use Rattle.aria_keypage.specs.declared.key_page.TheConstants.{ITEM_BYTES_LOW}
use Rattle.aria_keypage.specs.declared.kind.Kind.{Kind}
use Rattle.aria_keypage.specs.declared.kind.Kind.TheVariants.{Node}
use Rattle.aria_keypage.specs.Item.{Item, item_at}
use Rattle.aria_keypage.specs.Merge.{taken_over}
use Rattle.aria_keypage.specs.Child.{child_at}
use Rattle.aria_keypage.specs.Content.{item_bytes}
use Rattle.aria_key.specs.Tree.{Placed, name_of, items_on, names, IsOf, IsLevel, Filled}
use Rattle.aria_key.specs.Climb.{IsChild}
use Rattle.aria_key.specs.Thinning.{FilledBut}
use Rattle.aria_key.proofs.Lists.{all-at}
use Rattle.aria_key.proofs.Bounds.{names-append}
use Rattle.aria_key.proofs.Descending.{items-append}

-- pages n and n + 1 of a level
pub record AreTwo (l : List Placed) (n : ℕ) : Type 0 where
  pub a : List Placed
  pub p : Placed
  pub r : Placed
  pub b : List Placed
  pub parts : l ≡ a ++ p ∷ r ∷ b
  pub index : length a ≡ n

two_at : (l : List Placed) (n : ℕ) → suc n < length l → AreTwo l n
two_at [] n h = absurd (omega (arith, h))
two_at (x ∷ []) n h = absurd (omega (arith, h))
two_at (x ∷ y ∷ l) zero h = record { a = []; p = x; r = y; b = l; parts = refl; index = refl }
two_at (x ∷ y ∷ l) (suc n) h =
    let t = two_at (y ∷ l) n (omega (arith, h)) in
    record { a = x ∷ t.a; p = t.p; r = t.r; b = t.b; parts = ap (λ (m : List Placed). x ∷ m) t.parts; index = omega (arith, t.index) }

-- an item among those in front, and one behind them
pub item_in : (xs ys : List Item) (k : ℕ) → k < length xs → item_at (xs ++ ys) k ≡ item_at xs k
item_in [] ys k h = absurd (omega (arith, h))
item_in (x ∷ xs) ys zero h = refl
item_in (x ∷ xs) ys (suc k) h = item_in xs ys k (omega (arith, h))

pub item_past : (xs ys : List Item) (n k : ℕ) → n ≡ length xs + k → item_at (xs ++ ys) n ≡ item_at ys k
item_past [] ys n k e = let same : n ≡ k = omega (arith, e) in ap (item_at ys) same
item_past (x ∷ xs) ys zero k e = absurd (omega (arith, e))
item_past (x ∷ xs) ys (suc n) k e = item_past xs ys n k (omega (arith, e))

-- children k and k + 1 of a page
pub record AreBeside (u l : List Placed) (n page at k : ℕ) (c : IsChild u n page at) : Type 0 where
  pub a : List Placed
  pub p : Placed
  pub r : Placed
  pub b : List Placed
  pub parts : l ≡ a ++ p ∷ r ∷ b
  pub index : length a ≡ length (items_on c.before) + k
  pub left : p.page ≡ child_at c.here.content k
  pub right : r.page ≡ (item_at c.here.content.items k).to
  pub between : r.low ≡ (item_at c.here.content.items k).entry

pub beside : (key : ℕ) (xs : List Item) (u l : List Placed) (n page at k : ℕ) (c : IsChild u n page at) → IsLevel Node key xs u → names l ≡ items_on u → k < length c.here.content.items → AreBeside u l n page at k c
beside key xs u l n page at k c level named low = record {
  a = t.a;
  p = t.p;
  r = t.r;
  b = t.b;
  parts = t.parts;
  index = t.index;
  left = ap (λ (x : Item). x.to) (sym mine ∙ at-first) ∙ child k low;
  right = ap (λ (x : Item). x.to) (sym next ∙ at-next);
  between = ap (λ (x : Item). x.entry) (sym next ∙ at-next);
}
  where
    p : Placed
    p = c.here

    items : List Item
    items = c.here.content.items

    m : ℕ
    m = length (items_on c.before) + k

    first : Item
    first = record { entry = c.here.low; to = c.here.content.first }

    node : c.here.content.kind ≡ Node
    node = (all-at (IsOf Node key) c.before c.here c.behind u c.parts level.kinds).kind_is

    parted : items_on u ≡ items_on c.before ++ ((first ∷ items) ++ items_on c.behind)
    parted = ap items_on c.parts ∙ items-append c.before (c.here ∷ c.behind) ∙ ap (λ (t : Kind). items_on c.before ++ (taken_over t c.here.low c.here.content.first items ++ items_on c.behind)) node

    long : suc m < length l
    long = omega (arith, sym (length-map l name_of) ∙ ap length named, ap length parted, length-append (items_on c.before) ((first ∷ items) ++ items_on c.behind), length-append (first ∷ items) (items_on c.behind), low)

    t : AreTwo l m
    t = two_at l m long

    named-two : names l ≡ names t.a ++ name_of t.p ∷ name_of t.r ∷ names t.b
    named-two = ap (λ (x : List Placed). names x) t.parts ∙ names-append t.a (t.p ∷ t.r ∷ t.b)

    count : length (names t.a) ≡ m
    count = length-map t.a name_of ∙ t.index

    mine : item_at (items_on u) m ≡ name_of t.p
    mine = ap (λ (x : List Item). item_at x m) (sym named ∙ named-two) ∙ item_past (names t.a) (name_of t.p ∷ name_of t.r ∷ names t.b) m 0 (omega (arith, count))

    next : item_at (items_on u) (suc m) ≡ name_of t.r
    next = ap (λ (x : List Item). item_at x (suc m)) (sym named ∙ named-two) ∙ item_past (names t.a) (name_of t.p ∷ name_of t.r ∷ names t.b) (suc m) 1 (omega (arith, count))

    at-first : item_at (items_on u) m ≡ item_at ((first ∷ items) ++ items_on c.behind) k
    at-first = ap (λ (x : List Item). item_at x m) parted ∙ item_past (items_on c.before) ((first ∷ items) ++ items_on c.behind) m k refl

    at-next : item_at (items_on u) (suc m) ≡ item_at items k
    at-next = ap (λ (x : List Item). item_at x (suc m)) parted ∙ item_past (items_on c.before) ((first ∷ items) ++ items_on c.behind) (suc m) (suc k) (omega arith) ∙ item_in items (items_on c.behind) k low

    child : (k : ℕ) → k < length items → (item_at ((first ∷ items) ++ items_on c.behind) k).to ≡ child_at c.here.content k
    child zero h = refl
    child (suc k) h = ap (λ (x : Item). x.to) (item_in items (items_on c.behind) k (omega (arith, h)))

-- where one of two pages may have too few item bytes
pub record AreFilled (a : List Placed) (p r : Placed) (b : List Placed) : Type 0 where
  pub ahead : Filled a
  pub behind : Filled b
  pub one : (ITEM_BYTES_LOW ≤ length (item_bytes p.content)) ⊎ (ITEM_BYTES_LOW ≤ length (item_bytes r.content))

pub filled_two : (a : List Placed) (p r : Placed) (b l : List Placed) (n : ℕ) → l ≡ a ++ p ∷ r ∷ b → (n ≡ length a) ⊎ (n ≡ length a + 1) → FilledBut n l → AreFilled a p r b
filled_two a p r b l n e (inl k) f = by a (subst (λ (m : ℕ). FilledBut m (a ++ p ∷ r ∷ b)) k (subst (FilledBut n) e f))
  where
    by : (a : List Placed) → FilledBut (length a) (a ++ p ∷ r ∷ b) → AreFilled a p r b
    by [] f = record { ahead = tt; behind = f.1; one = inr f.0 }
    by (q ∷ a) f = let h = by a f.1 in record { ahead = (f.0, h.ahead); behind = h.behind; one = h.one }
filled_two a p r b l n e (inr k) f = by a (subst (λ (m : ℕ). FilledBut m (a ++ p ∷ r ∷ b)) (k ∙ add-one (length a)) (subst (FilledBut n) e f))
  where
    by : (a : List Placed) → FilledBut (suc (length a)) (a ++ p ∷ r ∷ b) → AreFilled a p r b
    by [] f = record { ahead = tt; behind = f.1; one = inl f.0 }
    by (q ∷ a) f = let h = by a f.1 in record { ahead = (f.0, h.ahead); behind = h.behind; one = h.one }
