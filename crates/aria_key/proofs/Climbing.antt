-- A page that was divided is named by the level above.
use Rattle.std.proofs.Common.{◌≡◌, ℕ, ◌+◌, ◌<◌, ◌≤◌, true, false, List, [], ◌∷◌, ◌++◌, length, take, drop, refl, sym, ap, subst, ◌∙◌, append_assoc, arith, length-append}
use Rattle.std.specs.List.{AllByRecursion}
use Rattle.std.proofs.lemmas.List.{length-take, length-map}
use Rattle.aria_keypage.specs.declared.kind.Kind.{Kind}
use Rattle.aria_keypage.specs.declared.kind.Kind.TheVariants.{Leaf, Node}
use Rattle.aria_keypage.specs.Item.{Item, is_below}
use Rattle.aria_keypage.specs.Merge.{taken_over}
use Rattle.aria_keypage.specs.Change.{with_item, node_of_one}
use Rattle.aria_keypage.specs.Content.{item_bytes}
use Rattle.aria_keypage.specs.Split.{left_half, right_half}
use Rattle.aria_key.specs.Tree.{Placed, items_of, name_of, items_on, names, Rising, Bounded, IsOf, IsLevel, Filled, is_top, Under, top, kind_over}
use Rattle.aria_key.specs.Step.{Has, in_right}
use Rattle.aria_key.specs.Climb.{above, Over, FilledOver, FilledRest, IsChild, Owes, onto}
use Rattle.aria_key.proofs.Lists.{all-append, all-left, all-right, all-at, all-weaker}
use Rattle.aria_key.proofs.Order.{not-back, up-below, rising-across, rising-right}
use Rattle.aria_key.proofs.Bounds.{names-append, IsUnder}
use Rattle.aria_key.proofs.Changing.{items-around}
use Rattle.aria_keypage.proofs.Fans.{fan_before, fan-parts}
use Rattle.aria_key.proofs.Dividing.{holding, right_of, Fits, put-whole, put-left, put-right}

-- all levels, from the root down
pub closed : (key root : ℕ) (ups : List (List Placed)) (l : List Placed) (downs : List (List Placed)) (walk : List Item) → Over key root ups → FilledOver ups → Under (is_top ups) key (above root ups) (l ∷ downs) walk → Under true key (top root) (onto ups (l ∷ downs)) walk
closed key root [] l downs walk over filled under = under
closed key root (u ∷ us) l downs walk over filled under = closed key root us u (l ∷ downs) walk over.1 filled.1 (over.0, filled.0, under)

-- the lows of a level rise
pub names-rise : (kind : Kind) (key : ℕ) (xs : List Item) (l : List Placed) → IsLevel kind key xs l → Rising xs
names-rise kind key xs l h = subst Rising h.named (by l h.kinds h.bounded)
  where
    some : (p : Placed) (xs : List Item) → 0 < length xs → AllByRecursion (λ x. is_below x.entry p.low ≡ false) (taken_over p.content.kind p.low p.content.first xs) → (low : List ℕ)
        → AllByRecursion (λ x. is_below x.entry low ≡ true) (taken_over p.content.kind p.low p.content.first xs) → is_below p.low low ≡ true
    some p [] h u low v = absurd (omega arith)
    some p (x ∷ xs) h u low v = with-kind p.content.kind u v
      where
        with-kind : (b : Kind) → AllByRecursion (λ x. is_below x.entry p.low ≡ false) (taken_over b p.low p.content.first (x ∷ xs)) → AllByRecursion (λ x. is_below x.entry low ≡ true) (taken_over b p.low p.content.first (x ∷ xs)) → is_below p.low low ≡ true
        with-kind Leaf u v = up-below p.low x.entry low u.0 v.0
        with-kind Node u v = v.0

    later : (p : Placed) (l : List Placed) → IsOf kind key p → AllByRecursion (λ x. is_below x.entry p.low ≡ false) (items_of p) → AllByRecursion (λ q. IsUnder q.low p) l → AllByRecursion (λ y. is_below p.low y.entry ≡ true) (names l)
    later p [] k u v = tt
    later p (q ∷ l) k u v = (some p p.content.items k.some u q.low v.0, later p l k u v.1)

    by : (l : List Placed) → AllByRecursion (IsOf kind key) l → Bounded l → Rising (names l)
    by [] k b = tt
    by (p ∷ l) k b = (later p l k.0 b.0 b.1, by l k.1 b.2)

-- equal lists are equal in pieces of equal length
pub same-cut : (xs ys us vs : List Item) → xs ++ ys ≡ us ++ vs → length xs ≡ length us → (xs ≡ us) × (ys ≡ vs)
same-cut [] ys [] vs e n = (refl, e)
same-cut [] ys (u ∷ us) vs e n = absurd (omega arith)
same-cut (x ∷ xs) ys [] vs e n = absurd (omega arith)
same-cut (x ∷ xs) ys (u ∷ us) vs e n =
    let h = same-cut xs ys us vs (cc) (omega arith) in
    let head : x ≡ u = cc in
    ((λ i. head i ∷ h.0 i), h.1)

-- where the page that isn't named yet belongs
pub record Belongs (front : List Item) (y : Item) (back : List Item) (a : List Placed) (p : Placed) (at : ℕ) (b : List Placed) : Type 0 where
  pub ahead : items_on a ++ fan_before p.low p.content at ≡ front ++ y ∷ []
  pub behind : drop at p.content.items ++ items_on b ≡ back

pub belongs : (key n page at : ℕ) (front : List Item) (y : Item) (back : List Item) (u : List Placed) (xs : List Item) → IsLevel Node key xs u → (c : IsChild u n page at) → items_on u ≡ front ++ y ∷ back → length front ≡ n
    → Belongs front y back c.before c.here at c.behind
belongs key n page at front y back u xs level c e size =
    let p : Placed = c.here in
    let node : p.content.kind ≡ Node = (all-at (IsOf Node key) c.before p c.behind u c.parts level.kinds).kind_is in
    let long : length (fan_before p.low p.content at) ≡ at + 1 =
    ap (λ (b : Kind). length (taken_over b p.low p.content.first (take at p.content.items))) node ∙ omega (arith, length-take at p.content.items, c.within) in
    let around : items_on u ≡ (items_on c.before ++ fan_before p.low p.content at) ++ (drop at p.content.items ++ items_on c.behind) =
    ap items_on c.parts ∙ items-around c.before c.behind p (fan_before p.low p.content at) (drop at p.content.items) (fan-parts p.low p.content at) in
    let cut = same-cut (items_on c.before ++ fan_before p.low p.content at) (drop at p.content.items ++ items_on c.behind) (front ++ y ∷ []) back (sym around ∙ e ∙ sym (append_assoc front (y ∷ []) back))
    (omega (arith, length-append (items_on c.before) (fan_before p.low p.content at), long, length-append front (y ∷ []), size, c.index)) in
    record { ahead = cut.0; behind = cut.1 }

-- in a level of nodes it fits there
pub node-fits : (key : ℕ) (xs : List Item) (front : List Item) (y x : Item) (back : List Item) (a b : List Placed) (p : Placed) (at : ℕ) → IsLevel Node key xs (a ++ p ∷ b) → Belongs front y back a p at b → Rising (front ++ y ∷ x ∷ back) → Fits p at x b
node-fits key xs front y x back a b p at level w r =
    let node : p.content.kind ≡ Node = (all-at (IsOf Node key) a p b (a ++ p ∷ b) refl level.kinds).kind_is in
    let whole : Rising ((front ++ y ∷ []) ++ x ∷ back) = subst Rising (sym (append_assoc front (y ∷ []) (x ∷ back))) r in
    let below : AllByRecursion (λ z. is_below z.entry x.entry ≡ true) (items_on a ++ fan_before p.low p.content at) =
    subst (AllByRecursion (λ z. is_below z.entry x.entry ≡ true)) (sym w.ahead)
    (all-weaker (λ z. AllByRecursion (λ q. is_below z.entry q.entry ≡ true) (x ∷ back)) (λ z. is_below z.entry x.entry ≡ true) (front ++ y ∷ []) (λ z u. u.0) (rising-across (front ++ y ∷ []) (x ∷ back) whole)) in
    let above : AllByRecursion (λ z. is_below x.entry z.entry ≡ true) (drop at p.content.items ++ items_on b) = subst (AllByRecursion (λ z. is_below x.entry z.entry ≡ true)) (sym w.behind) (rising-right (front ++ y ∷ []) (x ∷ back) whole).0 in
    let own : AllByRecursion (λ z. is_below z.entry x.entry ≡ true) (fan_before p.low p.content at) = all-right (λ z. is_below z.entry x.entry ≡ true) (items_on a) (fan_before p.low p.content at) below in
    record {
      between = record { below = own; above = all-left (λ z. is_below x.entry z.entry ≡ true) (drop at p.content.items) (items_on b) above };
      low = not-back p.low x.entry (subst (λ (t : Kind). AllByRecursion (λ z. is_below z.entry x.entry ≡ true) (taken_over t p.low p.content.first (take at p.content.items))) node own).0;
      high = lows b (all-right (IsOf Node key) a (p ∷ b) level.kinds).1 (all-right (λ z. is_below x.entry z.entry ≡ true) (drop at p.content.items) (items_on b) above);
    }
  where
    lows : (b : List Placed) → AllByRecursion (IsOf Node key) b → AllByRecursion (λ z. is_below x.entry z.entry ≡ true) (items_on b) → AllByRecursion (λ r. is_below x.entry r.low ≡ true) b
    lows [] k h = tt
    lows (q ∷ b) k h = (
      (subst (λ (t : Kind). AllByRecursion (λ z. is_below x.entry z.entry ≡ true) (taken_over t q.low q.content.first q.content.items)) k.0.kind_is (all-left (λ z. is_below x.entry z.entry ≡ true) (items_of q) (items_on b) h)).0,
      lows b k.1 (all-right (λ z. is_below x.entry z.entry ≡ true) (items_of q) (items_on b) h),
    )

pub filled-instead : (a b : List Placed) (p : Placed) (new : List Placed) → Filled (a ++ p ∷ b) → Filled new → Filled (a ++ (new ++ b))
filled-instead a b p new h k =
    all-append (λ p. 2045 ≤ length (item_bytes p.content)) a (new ++ b) (all-left (λ p. 2045 ≤ length (item_bytes p.content)) a (p ∷ b) h)
    (all-append (λ p. 2045 ≤ length (item_bytes p.content)) new b k (all-right (λ p. 2045 ≤ length (item_bytes p.content)) a (p ∷ b) h).1)

-- a level that has what it must
pub record Paid (key root : ℕ) (us : List (List Placed)) (u l : List Placed) (downs : List (List Placed)) (walk : List Item) : Type 0 where
  pub over : Over key root us
  pub filled : FilledOver us
  pub under : Under (is_top us) key (above root us) (u ∷ l ∷ downs) walk

-- the page above has room for its name
pub pay : (key root : ℕ) (u l : List Placed) (us downs : List (List Placed)) (walk : List Item) (n page at : ℕ) (x : Item) → Owes key root (u ∷ us) l downs walk n x → (c : IsChild u n page at)
    → (is_top us ≡ false → Filled (c.before ++ holding c.here (with_item c.here.content at x) ∷ c.behind))
    → Paid key root us (c.before ++ holding c.here (with_item c.here.content at x) ∷ c.behind) l downs walk
pay key root u l us downs walk n page at x o c filled =
    let p : Placed = c.here in
    let w = belongs key n page at o.front o.y o.back u (above root us) o.over.0 c o.old o.index in
    let rises : Rising (o.front ++ o.y ∷ x ∷ o.back) = subst Rising o.named (names-rise (kind_over downs) key (names l) l o.under.0) in
    let level : IsLevel Node key (above root us) (c.before ++ p ∷ c.behind) = subst (IsLevel Node key (above root us)) c.parts o.over.0 in
    let put = put-whole Node key (above root us) c.before c.behind p at x level (node-fits key (above root us) o.front o.y x o.back c.before c.behind p at level w rises) in
    let now : items_on (c.before ++ holding p (with_item p.content at x) ∷ c.behind) ≡ names l = put.items_are ∙ (λ i. w.ahead i ++ x ∷ w.behind i) ∙ append_assoc o.front (o.y ∷ []) (x ∷ o.back) ∙ sym o.named in
    record {
      over = o.over.1;
      filled = o.filled;
      under = (
        put.level,
        filled,
        subst (λ (xs : List Item). Under false key xs (l ∷ downs) walk) (sym now) o.under,
      );
    }

pub rest : (us : List (List Placed)) → FilledOver us → FilledRest us
rest [] h = tt
rest (u ∷ us) h = h.1

-- a level in which a page was divided owes a name
pub owes-next : (key root : ℕ) (u l : List Placed) (us downs : List (List Placed)) (walk : List Item) (n page at : ℕ) (x : Item) (o : Owes key root (u ∷ us) l downs walk n x) (c : IsChild u n page at)
    → Belongs o.front o.y o.back c.before c.here at c.behind → (q r : Placed)
    → Has Node key (names c.before ++ name_of c.here ∷ name_of r ∷ names c.behind) (c.before ++ q ∷ r ∷ c.behind) ((items_on c.before ++ fan_before c.here.low c.here.content at) ++ x ∷ (drop at c.here.content.items ++ items_on c.behind))
    → q.low ≡ c.here.low → q.page ≡ c.here.page → Filled (c.before ++ q ∷ r ∷ c.behind)
    → Owes key root us (c.before ++ q ∷ r ∷ c.behind) (l ∷ downs) walk (length c.before) (name_of r)
owes-next key root u l us downs walk n page at x o c w q r put elow epage filled =
    let now : items_on (c.before ++ q ∷ r ∷ c.behind) ≡ names l = put.items_are ∙ (λ i. w.ahead i ++ x ∷ w.behind i) ∙ append_assoc o.front (o.y ∷ []) (x ∷ o.back) ∙ sym o.named in
    record {
      front = names c.before;
      y = name_of c.here;
      back = names c.behind;
      over = o.over.1;
      filled = rest us o.filled;
      named = put.level.named;
      old = sym o.over.0.named ∙ ap (λ (m : List Placed). names m) c.parts ∙ names-append c.before (c.here ∷ c.behind);
      index = length-map c.before name_of;
      under = (
        record { named = refl; kinds = put.level.kinds; rising = put.level.rising; bounded = put.level.bounded },
        (λ r. filled),
        subst (λ (xs : List Item). Under false key xs (l ∷ downs) walk) (sym now) o.under,
      );
    }

-- it is divided, and so the next level up owes a name
pub climb-left : (key root : ℕ) (u l : List Placed) (us downs : List (List Placed)) (walk : List Item) (n page at k new : ℕ) (x : Item) → Owes key root (u ∷ us) l downs walk n x → (c : IsChild u n page at)
    → 0 < k → k < length c.here.content.items → 0 < length (right_half c.here.content k).items → at ≤ k
    → Filled (c.before ++ holding c.here (with_item (left_half c.here.content k) at x) ∷ right_of c.here k new ∷ c.behind)
    → Owes key root us (c.before ++ holding c.here (with_item (left_half c.here.content k) at x) ∷ right_of c.here k new ∷ c.behind) (l ∷ downs) walk (length c.before) (name_of (right_of c.here k new))
climb-left key root u l us downs walk n page at k new x o c some low right le filled =
    let p : Placed = c.here in
    let w = belongs key n page at o.front o.y o.back u (above root us) o.over.0 c o.old o.index in
    let rises : Rising (o.front ++ o.y ∷ x ∷ o.back) = subst Rising o.named (names-rise (kind_over downs) key (names l) l o.under.0) in
    let level : IsLevel Node key (above root us) (c.before ++ p ∷ c.behind) = subst (IsLevel Node key (above root us)) c.parts o.over.0 in
    let put = put-left Node key (above root us) c.before c.behind p k new at x level some low right (node-fits key (above root us) o.front o.y x o.back c.before c.behind p at level w rises) le in
    owes-next key root u l us downs walk n page at x o c w (holding p (with_item (left_half p.content k) at x)) (right_of p k new) put refl refl filled

pub climb-right : (key root : ℕ) (u l : List Placed) (us downs : List (List Placed)) (walk : List Item) (n page at k new : ℕ) (x : Item) → Owes key root (u ∷ us) l downs walk n x → (c : IsChild u n page at)
    → 0 < k → k < length c.here.content.items → 0 < length (right_half c.here.content k).items → k < at
    → Filled (c.before ++ holding c.here (left_half c.here.content k) ∷ holding (right_of c.here k new) (with_item (right_half c.here.content k) (in_right c.here.content.kind k at) x) ∷ c.behind)
    → Owes key root us (c.before ++ holding c.here (left_half c.here.content k) ∷ holding (right_of c.here k new) (with_item (right_half c.here.content k) (in_right c.here.content.kind k at) x) ∷ c.behind) (l ∷ downs) walk (length c.before) (name_of (right_of c.here k new))
climb-right key root u l us downs walk n page at k new x o c some low right gt filled =
    let p : Placed = c.here in
    let w = belongs key n page at o.front o.y o.back u (above root us) o.over.0 c o.old o.index in
    let rises : Rising (o.front ++ o.y ∷ x ∷ o.back) = subst Rising o.named (names-rise (kind_over downs) key (names l) l o.under.0) in
    let level : IsLevel Node key (above root us) (c.before ++ p ∷ c.behind) = subst (IsLevel Node key (above root us)) c.parts o.over.0 in
    let put = put-right Node key (above root us) c.before c.behind p k new at x level some low right (node-fits key (above root us) o.front o.y x o.back c.before c.behind p at level w rises) gt c.within in
    owes-next key root u l us downs walk n page at x o c w (holding p (left_half p.content k)) (holding (right_of p k new) (with_item (right_half p.content k) (in_right p.content.kind k at) x)) put refl refl filled

-- a new root names both pages of the level that was the root
pub new-root : (key root new : ℕ) (l : List Placed) (downs : List (List Placed)) (walk : List Item) (n : ℕ) (x : Item) → Owes key root [] l downs walk n x
    → Under true key (top new) ((record { low = []; page = new; content = node_of_one key root x } ∷ []) ∷ l ∷ downs) walk
new-root key root new l downs walk n x o = by o.front o.old o.named
  where
    p : Placed
    p = record { low = []; page = new; content = node_of_one key root x }

    low : (a : List ℕ) → is_below a [] ≡ false
    low [] = refl
    low (x ∷ a) = refl

    with-names : names l ≡ record { entry = []; to = root } ∷ x ∷ [] → Under true key (top new) ((p ∷ []) ∷ l ∷ downs) walk
    with-names e =
        let r : Rising (record { entry = []; to = root } ∷ x ∷ []) = subst Rising e (names-rise (kind_over downs) key (names l) l o.under.0) in (
          record { named = refl; kinds = (record { kind_is = refl; key_is = refl; some = omega arith }, tt); rising = r; bounded = ((low [], (low x.entry, tt)), tt, tt) },
          (λ f. absurd cc),
          subst (λ (xs : List Item). Under false key xs (l ∷ downs) walk) e o.under,
        )

    by : (front : List Item) → top root ≡ front ++ o.y ∷ o.back → names l ≡ front ++ o.y ∷ x ∷ o.back → Under true key (top new) ((p ∷ []) ∷ l ∷ downs) walk
    by [] e named =
        let a : o.y ≡ record { entry = []; to = root } = cc in
        let b : o.back ≡ [] = cc in
        with-names (named ∙ (λ i. a i ∷ x ∷ b i))
    by (z ∷ front) e named = absurd (omega (arith, ap length e, length-append front (o.y ∷ o.back)))
