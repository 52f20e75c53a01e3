-- One step down: from the page of a level in whose bounds an entry lies to that of the level below.
use Rattle.std.proofs.Common.{◌≡◌, ℕ, suc, ◌+◌, ◌<◌, ◌≤◌, Bool, true, false, List, [], ◌∷◌, ◌++◌, length, Option, refl, sym, ap, subst, ◌∙◌, append_assoc, add-one, arith, IsTrue, length-append}
use Rattle.std.specs.List.{AllByRecursion}
use Rattle.std.proofs.lemmas.Option.{same_Some}
use Rattle.std.proofs.Common.{Some}
use Rattle.aria_keypage.specs.declared.kind.Kind.{Kind}
use Rattle.aria_keypage.specs.declared.kind.Kind.TheVariants.{Leaf, Node}
use Rattle.aria_keypage.specs.Item.{Item, item_at, is_below, IsPosition}
use Rattle.aria_keypage.specs.Merge.{taken_over}
use Rattle.aria_keypage.specs.Child.{child_at}
use Rattle.aria_keypage.specs.Content.{Content, Spells}
use Rattle.aria_keypage.proofs.Read.{spells-one}
use Rattle.aria_key.specs.declared.path.Passed.{Passed}
use Rattle.aria_key.specs.declared.path.TheConstants.{MAX_LEVELS}
use Rattle.aria_key.specs.Tree.{Placed, items_of, name_of, items_on, names, Rising, Bounded, IsOf, is_top, Under, Holds, HoldAll, top, IsTree, kind_over}
use Rattle.aria_key.specs.Climb.{above, IsPath, onto}
use Rattle.aria_key.specs.Place.{child_index, IsOn, Descent, IsFound}
use Rattle.aria_key.proofs.Children.{place-within}
use Rattle.std.proofs.lemmas.List.{length-map}
use Rattle.aria_key.proofs.Lists.{all-append, all-right, all-weaker, all-mapped, all-at, Cut, cut, last_of}
use Rattle.aria_key.proofs.Order.{below-trans, not-back, below-up, above-unless, rising-left, rising-right, Parted, parted}

-- levels in pieces
pub items-append : (a b : List Placed) → items_on (a ++ b) ≡ items_on a ++ items_on b
items-append [] b = refl
items-append (p ∷ a) b = ap (λ (l : List Item). items_of p ++ l) (items-append a b) ∙ sym (append_assoc (items_of p) (items_on a) (items_on b))

pub bounded-right : (a b : List Placed) → Bounded (a ++ b) → Bounded b
bounded-right [] b h = h
bounded-right (p ∷ a) b h = bounded-right a b h.2

-- the items of pages whose bounds lie above an entry are above it
pub items-high : (entry : List ℕ) (l : List Placed) → Bounded l → AllByRecursion (λ q. is_below entry q.low ≡ true) l → AllByRecursion (λ x. is_below entry x.entry ≡ true) (items_on l)
items-high entry [] b h = tt
items-high entry (p ∷ l) b h =
    all-append (λ x. is_below entry x.entry ≡ true) (items_of p) (items_on l)
    (all-weaker (λ x. is_below x.entry p.low ≡ false) (λ x. is_below entry x.entry ≡ true) (items_of p) (λ x q. below-up entry p.low x.entry h.0 q) b.0)
    (items-high entry l b.2 h.1)

pub item-middle : (front : List Item) (y : Item) (back : List Item) → item_at (front ++ y ∷ back) (length front) ≡ y
item-middle [] y back = refl
item-middle (x ∷ front) y back = item-middle front y back

-- the child of a node in whose bounds an entry lies
pub record Fork (entry : List ℕ) (items : List Item) (to index : ℕ) : Type 0 where
  pub front : List Item
  pub y : Item
  pub back : List Item
  pub parts : items ≡ front ++ y ∷ back
  pub size : length front ≡ index
  pub to_is : y.to ≡ to
  pub low : is_below entry y.entry ≡ false
  pub high : AllByRecursion (λ x. is_below entry x.entry ≡ true) back

below-itself : (a : List ℕ) → is_below a a ≡ true → ⊥
below-itself a e = let n : is_below a a ≡ false = not-back a a e in absurd cc

-- where the entry itself is found
fork-same : (entry low : List ℕ) (first : ℕ) (items : List Item) (place : ℕ) → Rising items → Parted entry items place → place < length items → (item_at items place).entry ≡ entry
    → Fork entry ((record { entry = low; to = first }) ∷ items) (item_at items place).to (place + 1)
fork-same entry low first items place r h within same = by h.upper h.parts
  where
    x : Item
    x = record { entry = low; to = first }

    by : (upper : List Item) → items ≡ h.lower ++ upper → Fork entry (x ∷ items) (item_at items place).to (place + 1)
    by [] e = absurd (omega (arith, within, h.count, ap length e, length-append h.lower []))
    by (u ∷ us) e =
        let there : item_at items place ≡ u = (λ i. item_at (e i) (sym h.count i)) ∙ item-middle h.lower u us in
        let its : u.entry ≡ entry = ap (λ (z : Item). z.entry) (sym there) ∙ same in
        record {
          front = x ∷ h.lower;
          y = u;
          back = us;
          parts = ap (λ (m : List Item). x ∷ m) e;
          size = omega (arith, h.count);
          to_is = ap (λ (z : Item). z.to) (sym there);
          low = subst (λ (k : List ℕ). is_below entry k ≡ false) (sym its) (itself entry (is_below entry entry) refl);
          high = all-weaker (λ z. is_below u.entry z.entry ≡ true) (λ z. is_below entry z.entry ≡ true) us (λ z q. subst (λ (k : List ℕ). is_below k z.entry ≡ true) its q) (rising-right h.lower (u ∷ us) (subst Rising e r)).0;
        }
      where
        itself : (k : List ℕ) (b : Bool) → is_below k k ≡ b → is_below k k ≡ false
        itself k false e = e
        itself k true e = absurd (below-itself k e)

-- where it isn't
fork-other : (entry low : List ℕ) (c : Content) (place : ℕ) → is_below entry low ≡ false → Rising c.items → Parted entry c.items place → ((place < length c.items) × ((item_at c.items place).entry ≡ entry) → ⊥)
    → Fork entry ((record { entry = low; to = c.first }) ∷ c.items) (child_at c place) place
fork-other entry low c place bound r h other =
    from h.lower h.count h.parts h.below
  where
    x : Item
    x = record { entry = low; to = c.first }

    high : (lower upper : List Item) → length lower ≡ place → c.items ≡ lower ++ upper → AllByRecursion (λ z. is_below z.entry entry ≡ false) upper → AllByRecursion (λ z. is_below entry z.entry ≡ true) upper
    high lower [] n e a = tt
    high lower (u ∷ us) n e a =
        let there : item_at c.items place ≡ u = (λ i. item_at (e i) (sym n i)) ∙ item-middle lower u us in
        let within : place < length c.items = omega (arith, n, ap length e, length-append lower (u ∷ us)) in
        let up : is_below entry u.entry ≡ true = above-unless entry u.entry a.0 (λ s. other (within, ap (λ (z : Item). z.entry) there ∙ s)) in
        (up, all-weaker (λ z. is_below u.entry z.entry ≡ true) (λ z. is_below entry z.entry ≡ true) us (λ z q. below-trans entry u.entry z.entry up q) (rising-right lower (u ∷ us) (subst Rising e r)).0)

    from : (lower : List Item) → length lower ≡ place → c.items ≡ lower ++ h.upper → AllByRecursion (λ z. is_below z.entry entry ≡ true) lower → Fork entry (x ∷ c.items) (child_at c place) place
    from [] n e a = record {
      front = [];
      y = x;
      back = h.upper;
      parts = ap (λ (m : List Item). x ∷ m) e;
      size = n;
      to_is = ap (λ (k : ℕ). child_at c k) n;
      low = bound;
      high = high [] h.upper n e h.above;
    }
    from (z ∷ zs) n e a =
        let l = last_of z zs in
        let whole : c.items ≡ l.front ++ l.last ∷ h.upper = e ∙ ap (λ (m : List Item). m ++ h.upper) l.parts ∙ append_assoc l.front (l.last ∷ []) h.upper in
        let size : suc (length l.front) ≡ place = omega (arith, n, ap length l.parts, length-append l.front (l.last ∷ [])) in
        let there : item_at c.items (length l.front) ≡ l.last = ap (λ (m : List Item). item_at m (length l.front)) whole ∙ item-middle l.front l.last h.upper in
        let last : is_below l.last.entry entry ≡ true = (all-right (λ z. is_below z.entry entry ≡ true) l.front (l.last ∷ []) (subst (AllByRecursion (λ z. is_below z.entry entry ≡ true)) l.parts a)).0 in
        record {
          front = x ∷ l.front;
          y = l.last;
          back = h.upper;
          parts = ap (λ (m : List Item). x ∷ m) whole;
          size = size;
          to_is = ap (λ (z : Item). z.to) (sym there) ∙ ap (λ (k : ℕ). child_at c k) size;
          low = not-back l.last.entry entry last;
          high = high (z ∷ zs) h.upper n e h.above;
        }

pub fork : (entry low : List ℕ) (c : Content) (place : ℕ) (same : Bool) → is_below entry low ≡ false → Rising c.items → IsPosition entry c.items place same → Fork entry ((record { entry = low; to = c.first }) ∷ c.items) (child_at c (child_index place same)) (child_index place same)
fork entry low c place true bound r is =
    let there = is.found.0 refl in
    subst (λ (k : ℕ). Fork entry ((record { entry = low; to = c.first }) ∷ c.items) k (place + 1)) (ap (child_at c) (sym (add-one place)))
    (fork-same entry low c.first c.items place r (subst (Parted entry c.items) (sym is.first) (parted entry c.items r)) there.0 there.1)
fork entry low c place false bound r is =
    fork-other entry low c place bound r (subst (Parted entry c.items) (sym is.first) (parted entry c.items r)) (λ t. let e : IsTrue false = is.found.1 t in absurd cc)

-- what the page that was come to holds
pub come-to : (bodies : ℕ → Option (List ℕ)) (count key root : ℕ) (entry : List ℕ) (all : List (List Placed)) (walk : List Item) (page : ℕ) (path : List Passed) (body : List ℕ) (c : Content) (d : Descent bodies count key root entry all walk page path)
    → bodies page ≡ Some body → Spells body c → d.on.here.content ≡ c
come-to bodies count key root entry all walk page path body c d e spells =
    let h : Holds bodies count d.on.here = all-at (Holds bodies count) d.on.before d.on.here d.on.behind d.level d.on.parts d.hold.0 in
    let same : Some h.body ≡ Some body = sym h.there ∙ ap bodies d.on.page_is ∙ e in
    spells-one body d.on.here.content c (subst (λ (b : List ℕ). Spells b d.on.here.content) (same_Some h.body body same) h.spells) spells

-- where a page of these items is parted, so is its level
whole-fork : (entry : List ℕ) (level before behind : List Placed) (here : Placed) (to index : ℕ) → level ≡ before ++ here ∷ behind → Bounded level → AllByRecursion (λ q. is_below entry q.low ≡ true) behind → Fork entry (items_of here) to index → Fork entry (items_on level) to (length (items_on before) + index)
whole-fork entry level before behind here to index parts bounded high f = record {
  front = items_on before ++ f.front;
  y = f.y;
  back = f.back ++ items_on behind;
  parts = ap items_on parts ∙ items-append before (here ∷ behind) ∙ ap (λ (m : List Item). items_on before ++ (m ++ items_on behind)) f.parts
      ∙ ap (λ (m : List Item). items_on before ++ m) (append_assoc f.front (f.y ∷ f.back) (items_on behind)) ∙ sym (append_assoc (items_on before) f.front (f.y ∷ (f.back ++ items_on behind)));
  size = omega (arith, length-append (items_on before) f.front, f.size);
  to_is = f.to_is;
  low = f.low;
  high = all-append (λ x. is_below entry x.entry ≡ true) f.back (items_on behind) f.high (items-high entry behind (bounded-right before (here ∷ behind) (subst Bounded parts bounded)).2 high);
}

-- the items of a page rise
pub page-rises : (before behind : List Placed) (here : Placed) (level : List Placed) → level ≡ before ++ here ∷ behind → Rising (items_on level) → Rising (items_of here)
page-rises before behind here level parts r =
    rising-left (items_of here) (items_on behind) (rising-right (items_on before) (items_of here ++ items_on behind) (subst Rising (ap items_on parts ∙ items-append before (here ∷ behind)) r))

-- the page of a level that the fork of its names gives
on-level : (entry : List ℕ) (m : List Placed) (xs : List Item) (to n : ℕ) → names m ≡ xs → Fork entry xs to n → IsOn entry m n to
on-level entry m xs to n named f =
    let k : Cut name_of m f.front f.y f.back = cut name_of m f.front f.y f.back (named ∙ f.parts) in
    record {
      before = k.before;
      here = k.here;
      behind = k.behind;
      parts = k.parts;
      index = sym (length-map k.before name_of) ∙ ap length k.front_is ∙ f.size;
      page_is = ap (λ (x : Item). x.to) k.here_is ∙ f.to_is;
      low = subst (λ (x : Item). is_below entry x.entry ≡ false) (sym k.here_is) f.low;
      high = all-mapped name_of (λ x. is_below entry x.entry ≡ true) k.behind (subst (AllByRecursion (λ x. is_below entry x.entry ≡ true)) (sym k.back_is) f.high);
    }

-- one step down
pub descend : (bodies : ℕ → Option (List ℕ)) (count key root : ℕ) (entry : List ℕ) (all : List (List Placed)) (walk : List Item) (page at : ℕ) (same : Bool) (path : List Passed) (body : List ℕ) (c : Content) → Descent bodies count key root entry all walk page path
    → bodies page ≡ Some body → Spells body c → c.kind ≡ Node → IsPosition entry c.items at same → Descent bodies count key root entry all walk (child_at c (child_index at same)) (path ++ record { page = page; at = child_index at same } ∷ [])
descend bodies count key root entry all walk page at same path body c d there spells node is =
    let e : d.on.here.content ≡ c = come-to bodies count key root entry all walk page path body c d there spells in
    let low : List ℕ = d.on.here.low in
    let index : ℕ = child_index at same in
    let fan : items_of d.on.here ≡ (record { entry = low; to = c.first }) ∷ c.items =
    ap (λ (k : Content). taken_over k.kind low k.first k.items) e ∙ ap (λ (b : Kind). taken_over b low c.first c.items) node in
    let rises : Rising c.items = (subst Rising fan (page-rises d.on.before d.on.behind d.on.here d.level d.on.parts d.under.0.rising)).1 in
    let f : Fork entry (items_of d.on.here) (child_at c (child_index at same)) index = subst (λ (m : List Item). Fork entry m (child_at c (child_index at same)) index) (sym fan) (fork entry low c at same d.on.low rises is) in
    let whole : Fork entry (items_on d.level) (child_at c (child_index at same)) (length (items_on d.on.before) + index) = whole-fork entry d.level d.on.before d.on.behind d.on.here (child_at c (child_index at same)) index d.on.parts d.under.0.bounded d.on.high f in
    let last : kind_over d.levels ≡ Node = sym (all-at (IsOf (kind_over d.levels) key) d.on.before d.on.here d.on.behind d.level d.on.parts d.under.0.kinds).kind_is ∙ ap (λ (k : Content). k.kind) e ∙ node in
    by d.levels last d.under d.hold.1 d.few d.whole whole (index-within at same is) e
  where
    index-within : (at : ℕ) (same : Bool) → IsPosition entry c.items at same → child_index at same ≤ length c.items
    index-within at true is = omega (arith, (is.found.0 refl).0)
    index-within at false is = place-within entry c.items at false is

    by : (levels : List (List Placed)) → kind_over levels ≡ Node → Under (is_top d.ups) key (above root d.ups) (d.level ∷ levels) walk → HoldAll bodies count levels → length path + length levels < MAX_LEVELS → onto d.ups (d.level ∷ levels) ≡ all
        → Fork entry (items_on d.level) (child_at c (child_index at same)) (length (items_on d.on.before) + child_index at same) → child_index at same ≤ length c.items → d.on.here.content ≡ c
        → Descent bodies count key root entry all walk (child_at c (child_index at same)) (path ++ record { page = page; at = child_index at same } ∷ [])
    by [] last under hold few whole f within e = absurd cc
    by (m ∷ ms) last under hold few whole f within e = record {
      ups = d.level ∷ d.ups;
      level = m;
      levels = ms;
      whole = whole;
      over = (under.0, d.over);
      filled = (under.1, d.filled);
      under = under.2;
      hold = hold;
      n = length (items_on d.on.before) + child_index at same;
      on = on-level entry m (items_on d.level) (child_at c (child_index at same)) (length (items_on d.on.before) + child_index at same) under.2.0.named f;
      path_is = (
        path,
        record { page = page; at = child_index at same },
        refl,
        record { before = d.on.before; here = d.on.here; behind = d.on.behind; parts = d.on.parts; page_is = d.on.page_is; within = omega (arith, within, ap (λ (k : Content). length k.items) e); index = refl },
        subst (λ (n : ℕ). IsPath d.ups n path) (sym d.on.index) d.path_is,
      );
      few = omega (arith, length-append path (record { page = page; at = child_index at same } ∷ []));
    }

-- the root
pub at-root : (bodies : ℕ → Option (List ℕ)) (count key root : ℕ) (entry : List ℕ) (levels : List (List Placed)) (walk : List Item) → IsTree bodies count key root levels walk → Descent bodies count key root entry levels walk root []
at-root bodies count key root entry [] walk t = absurd (omega (arith, t.some))
at-root bodies count key root entry (l ∷ ls) walk t =
    record {
      ups = [];
      level = l;
      levels = ls;
      whole = refl;
      over = tt;
      filled = tt;
      under = t.under;
      hold = t.hold;
      n = 0;
      on = on-level entry l (top root) root 0 t.under.0.named (record { front = []; y = record { entry = []; to = root }; back = []; parts = refl; size = refl; to_is = refl; low = none entry; high = tt });
      path_is = (refl, refl);
      few = omega (arith, t.few);
    }
  where
    none : (a : List ℕ) → is_below a [] ≡ false
    none [] = refl
    none (x ∷ a) = refl

-- a leaf
pub at-leaf : (bodies : ℕ → Option (List ℕ)) (count key root : ℕ) (entry : List ℕ) (all : List (List Placed)) (walk : List Item) (page at : ℕ) (same : Bool) (path : List Passed) (body : List ℕ) (c : Content) → Descent bodies count key root entry all walk page path
    → bodies page ≡ Some body → Spells body c → c.kind ≡ Leaf → IsPosition entry c.items at same → IsFound bodies count key root entry all walk page at same path
at-leaf bodies count key root entry all walk page at same path body c d there spells leaf is =
    let e : d.on.here.content ≡ c = come-to bodies count key root entry all walk page path body c d there spells in
    let last : kind_over d.levels ≡ Leaf = sym (all-at (IsOf (kind_over d.levels) key) d.on.before d.on.here d.on.behind d.level d.on.parts d.under.0.kinds).kind_is ∙ ap (λ (k : Content). k.kind) e ∙ leaf in
    by d.levels last d.under d.whole e
  where
    by : (levels : List (List Placed)) → kind_over levels ≡ Leaf → Under (is_top d.ups) key (above root d.ups) (d.level ∷ levels) walk → onto d.ups (d.level ∷ levels) ≡ all → d.on.here.content ≡ c → IsFound bodies count key root entry all walk page at same path
    by (m ∷ ms) last under whole e = absurd cc
    by [] last under whole e = record {
      ups = d.ups;
      leaves = d.level;
      whole = whole;
      over = d.over;
      filled = d.filled;
      under = under;
      hold = (d.hold.0, tt);
      n = d.n;
      on = d.on;
      path_is = d.path_is;
      place = subst (λ (k : Content). IsPosition entry k.items at same) (sym e) is;
    }
