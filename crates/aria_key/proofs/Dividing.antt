-- An item is put into a page that has room, or into one of the two halves of one that hasn't.
use Rattle.std.proofs.Common.{◌≡◌, ℕ, zero, suc, ◌+◌, ◌-◌, ◌<◌, ◌≤◌, true, false, List, [], ◌∷◌, ◌++◌, length, take, drop, refl, sym, ap, subst, ◌∙◌, append_assoc, arith, length-append}
use Rattle.std.specs.List.{AllByRecursion}
use Rattle.std.proofs.lemmas.List.{take-append-drop, drop-drop, take-take, length-take, append_cancel_right, append-nil}
use Rattle.aria_keypage.specs.declared.kind.Kind.{Kind}
use Rattle.aria_keypage.specs.declared.kind.Kind.TheVariants.{Leaf, Node}
use Rattle.aria_keypage.specs.Item.{Item, item_at, is_below}
use Rattle.aria_keypage.specs.Merge.{taken_over}
use Rattle.aria_keypage.specs.Change.{with_item}
use Rattle.aria_keypage.specs.Content.{Content}
use Rattle.aria_keypage.specs.Split.{left_half, right_half}
use Rattle.aria_key.specs.Tree.{Placed, items_of, name_of, items_on, names, IsOf, IsLevel}
use Rattle.aria_key.specs.Step.{Has, IsBetween, in_right}
use Rattle.aria_key.proofs.Lists.{drop-at, all-left, all-right, all-at}
use Rattle.aria_key.proofs.Order.{not-back}
use Rattle.aria_key.proofs.Descending.{items-append}
use Rattle.aria_key.proofs.Changing.{put-item, divide}
use Rattle.aria_keypage.proofs.Fans.{fan_before, fan-parts, fan-insert, fan-right}

-- a page with another content
abbrev pub holding : Placed → Content → Placed
holding p c = record { low = p.low; page = p.page; content = c }

-- the page to the right of a divided one
abbrev pub right_of : Placed → ℕ → ℕ → Placed
right_of p k new = record { low = (item_at p.content.items k).entry; page = new; content = right_half p.content k }

-- where an item lies among those of a page and in the bounds of a level
pub record Fits (p : Placed) (at : ℕ) (x : Item) (b : List Placed) : Type 0 where
  pub between : IsBetween (fan_before p.low p.content at) x.entry (drop at p.content.items)
  pub low : is_below x.entry p.low ≡ false
  pub high : AllByRecursion (λ r. is_below x.entry r.low ≡ true) b

pub of-with : (kind : Kind) (key : ℕ) (p : Placed) (at : ℕ) (x : Item) → IsOf kind key p → IsOf kind key (holding p (with_item p.content at x))
of-with kind key p at x is = record { kind_is = is.kind_is; key_is = is.key_is; some = omega (arith, length-append (take at p.content.items) (x ∷ drop at p.content.items)) }

-- where there is room
pub put-whole : (kind : Kind) (key : ℕ) (xs : List Item) (a b : List Placed) (p : Placed) (at : ℕ) (x : Item) → IsLevel kind key xs (a ++ p ∷ b) → Fits p at x b
    → Has kind key xs (a ++ holding p (with_item p.content at x) ∷ b) ((items_on a ++ fan_before p.low p.content at) ++ x ∷ (drop at p.content.items ++ items_on b))
put-whole kind key xs a b p at x h f =
    put-item kind key xs a b p (holding p (with_item p.content at x)) (fan_before p.low p.content at) (drop at p.content.items) x h (fan-parts p.low p.content at) (fan-insert p.low p.content at x) refl refl
    (of-with kind key p at x (all-at (IsOf kind key) a p b (a ++ p ∷ b) refl h.kinds)) f.between f.low f.high

pub right-kind : (c : Content) (k : ℕ) → (right_half c k).kind ≡ c.kind
right-kind c k = by c.kind refl
  where
    by : (b : Kind) → c.kind ≡ b → (right_half c k).kind ≡ c.kind
    by Leaf e = rw e refl
    by Node e = rw e refl

right-key : (c : Content) (k : ℕ) → (right_half c k).key ≡ c.key
right-key c k = by c.kind refl
  where
    by : (b : Kind) → c.kind ≡ b → (right_half c k).key ≡ c.key
    by Leaf e = rw e refl
    by Node e = rw e refl

-- a page in two halves
pub divided : (kind : Kind) (key : ℕ) (xs : List Item) (a b : List Placed) (p : Placed) (k new : ℕ) → IsLevel kind key xs (a ++ p ∷ b) → 0 < k → k < length p.content.items → 0 < length (right_half p.content k).items
    → Has kind key (names a ++ name_of p ∷ name_of (right_of p k new) ∷ names b) (a ++ holding p (left_half p.content k) ∷ right_of p k new ∷ b) (items_on (a ++ p ∷ b))
divided kind key xs a b p k new h some low more =
    let is : IsOf kind key p = all-at (IsOf kind key) a p b (a ++ p ∷ b) refl h.kinds in
    let z : Item = item_at p.content.items k in
    divide kind key xs a b p (holding p (left_half p.content k)) (right_of p k new) (fan_before p.low p.content k) (drop (k + 1) p.content.items) z h
    (fan-parts p.low p.content k ∙ ap (λ (m : List Item). fan_before p.low p.content k ++ m) (drop-at p.content.items k low)) refl (fan-right p.content k low) refl refl refl
    (record { kind_is = is.kind_is; key_is = is.key_is; some = omega (arith, length-take k p.content.items) })
    (record { kind_is = right-kind p.content k ∙ is.kind_is; key_is = right-key p.content k ∙ is.key_is; some = more })

cut-twice : (xs : List Item) (at k : ℕ) → at ≤ k → drop at xs ≡ drop at (take k xs) ++ drop k xs
cut-twice xs zero k h = sym (take-append-drop k xs)
cut-twice xs (suc at) zero h = absurd (omega arith)
cut-twice [] (suc at) (suc k) h = refl
cut-twice (x ∷ xs) (suc at) (suc k) h = cut-twice xs at k (omega arith)

-- into the left half
pub put-left : (kind : Kind) (key : ℕ) (xs : List Item) (a b : List Placed) (p : Placed) (k new at : ℕ) (x : Item) → IsLevel kind key xs (a ++ p ∷ b) → 0 < k → k < length p.content.items → 0 < length (right_half p.content k).items → Fits p at x b → at ≤ k
    → Has kind key (names a ++ name_of p ∷ name_of (right_of p k new) ∷ names b) (a ++ holding p (with_item (left_half p.content k) at x) ∷ right_of p k new ∷ b)
    ((items_on a ++ fan_before p.low p.content at) ++ x ∷ (drop at p.content.items ++ items_on b))
put-left kind key xs a b p k new at x h some low more f le =
    let c : Content = p.content in
    let r : Placed = right_of p k new in
    let q : Placed = holding p (left_half c k) in
    let d = divided kind key xs a b p k new h some low more in
    let fr : items_of r ≡ item_at c.items k ∷ drop (k + 1) c.items = fan-right c k low in
    let tail : drop at c.items ≡ drop at (take k c.items) ++ drop k c.items = cut-twice c.items at k le in
    let split : drop at c.items ≡ drop at (take k c.items) ++ item_at c.items k ∷ drop (k + 1) c.items = tail ∙ ap (λ (m : List Item). drop at (take k c.items) ++ m) (drop-at c.items k low) in
    let above : AllByRecursion (λ y. is_below x.entry y.entry ≡ true) (drop at (take k c.items) ++ item_at c.items k ∷ drop (k + 1) c.items) = subst (AllByRecursion (λ y. is_below x.entry y.entry ≡ true)) split f.between.above in
    let same : fan_before q.low q.content at ≡ fan_before p.low c at = ap (λ (m : List Item). taken_over c.kind p.low c.first m) (take-take at k c.items le) in
    let fits : Fits q at x (r ∷ b) = record {
      between = record {
        below = subst (AllByRecursion (λ y. is_below y.entry x.entry ≡ true)) (sym same) f.between.below;
        above = all-left (λ y. is_below x.entry y.entry ≡ true) (drop at (take k c.items)) (item_at c.items k ∷ drop (k + 1) c.items) above;
      };
      low = f.low;
      high = ((all-right (λ y. is_below x.entry y.entry ≡ true) (drop at (take k c.items)) (item_at c.items k ∷ drop (k + 1) c.items) above).0, f.high);
    } in
    let put = put-whole kind key (names a ++ name_of p ∷ name_of r ∷ names b) a (r ∷ b) q at x d.level fits in
    record {
      level = put.level;
      items_are = put.items_are ∙ (λ i. (items_on a ++ same i) ++ x ∷ (drop at (take k c.items) ++ (fr i ++ items_on b)))
          ∙ ap (λ (m : List Item). (items_on a ++ fan_before p.low c at) ++ x ∷ m) (sym (append_assoc (drop at (take k c.items)) (item_at c.items k ∷ drop (k + 1) c.items) (items_on b)) ∙ ap (λ (m : List Item). m ++ items_on b) (sym split));
    }

drop-in-right : (c : Content) (k at : ℕ) → k < at → drop (in_right c.kind k at) (right_half c k).items ≡ drop at c.items
drop-in-right c k at h = by c.kind refl
  where
    by : (b : Kind) → c.kind ≡ b → drop (in_right c.kind k at) (right_half c k).items ≡ drop at c.items
    by Leaf e = rw e (drop-drop (at - k) k c.items ∙ ap (λ (n : ℕ). drop n c.items) (omega arith))
    by Node e = rw e (drop-drop (at - (k + 1)) (k + 1) c.items ∙ ap (λ (n : ℕ). drop n c.items) (omega arith))

longer : (low : List ℕ) (c : Content) (k at : ℕ) → k < at → at ≤ length c.items → length (fan_before low c k) < length (fan_before low c at)
longer low c k at h within = by c.kind
  where
    by : (b : Kind) → length (taken_over b low c.first (take k c.items)) < length (taken_over b low c.first (take at c.items))
    by Leaf = omega (arith, length-take k c.items, length-take at c.items)
    by Node = omega (arith, length-take k c.items, length-take at c.items)

-- into the right half
pub put-right : (kind : Kind) (key : ℕ) (xs : List Item) (a b : List Placed) (p : Placed) (k new at : ℕ) (x : Item) → IsLevel kind key xs (a ++ p ∷ b) → 0 < k → k < length p.content.items → 0 < length (right_half p.content k).items → Fits p at x b → k < at → at ≤ length p.content.items
    → Has kind key (names a ++ name_of p ∷ name_of (right_of p k new) ∷ names b) (a ++ holding p (left_half p.content k) ∷ holding (right_of p k new) (with_item (right_half p.content k) (in_right p.content.kind k at) x) ∷ b)
    ((items_on a ++ fan_before p.low p.content at) ++ x ∷ (drop at p.content.items ++ items_on b))
put-right kind key xs a b p k new at x h some low more f gt within =
    let c : Content = p.content in
    let z : Item = item_at c.items k in
    let r : Placed = right_of p k new in
    let q : Placed = holding p (left_half c k) in
    let d = divided kind key xs a b p k new h some low more in
    let place : ℕ = in_right c.kind k at in
    let fr : List Item = fan_before r.low r.content place in
    let whole : fr ++ drop place r.content.items ≡ z ∷ drop (k + 1) c.items = sym (fan-parts r.low r.content place) ∙ fan-right c k low in
    let g : drop place r.content.items ≡ drop at c.items = drop-in-right c k at gt in
    let front : fan_before p.low c k ++ fr ≡ fan_before p.low c at =
    append_cancel_right (fan_before p.low c k ++ fr) (fan_before p.low c at) (drop at c.items)
    (append_assoc (fan_before p.low c k) fr (drop at c.items) ∙ ap (λ (m : List Item). fan_before p.low c k ++ m) (ap (λ (m : List Item). fr ++ m) (sym g) ∙ whole ∙ sym (drop-at c.items k low)) ∙ sym (fan-parts p.low c k) ∙ fan-parts p.low c at) in
    let below : AllByRecursion (λ y. is_below y.entry x.entry ≡ true) fr = all-right (λ y. is_below y.entry x.entry ≡ true) (fan_before p.low c k) fr (subst (AllByRecursion (λ y. is_below y.entry x.entry ≡ true)) (sym front) f.between.below) in
    let size : length (fan_before p.low c k ++ fr) ≡ length (fan_before p.low c at) = ap length front in
    let fits : Fits r place x b = record {
      between = record { below = below; above = subst (AllByRecursion (λ y. is_below x.entry y.entry ≡ true)) (sym g) f.between.above };
      low = not-back z.entry x.entry (first fr (drop place r.content.items) z (drop (k + 1) c.items) whole below (omega (arith, size, length-append (fan_before p.low c k) fr, longer p.low c k at gt within)));
      high = f.high;
    } in
    let level : IsLevel kind key (names a ++ name_of p ∷ name_of r ∷ names b) ((a ++ q ∷ []) ++ r ∷ b) = subst (IsLevel kind key (names a ++ name_of p ∷ name_of r ∷ names b)) (sym (append_assoc a (q ∷ []) (r ∷ b))) d.level in
    let put = put-whole kind key (names a ++ name_of p ∷ name_of r ∷ names b) (a ++ q ∷ []) b r place x level fits in
    let r' : Placed = holding r (with_item r.content place x) in
    let same : (a ++ q ∷ []) ++ r' ∷ b ≡ a ++ q ∷ r' ∷ b = append_assoc a (q ∷ []) (r' ∷ b) in
    let ahead : items_on (a ++ q ∷ []) ++ fr ≡ items_on a ++ fan_before p.low c at =
    ap (λ (m : List Item). m ++ fr) (items-append a (q ∷ []) ∙ ap (λ (m : List Item). items_on a ++ m) (append-nil (fan_before p.low c k))) ∙ append_assoc (items_on a) (fan_before p.low c k) fr ∙ ap (λ (m : List Item). items_on a ++ m) front in
    record {
      level = subst (IsLevel kind key (names a ++ name_of p ∷ name_of r ∷ names b)) same put.level;
      items_are = ap items_on (sym same) ∙ put.items_are ∙ (λ i. ahead i ++ x ∷ (g i ++ items_on b));
    }
  where
    first : (fr g : List Item) (z : Item) (tail : List Item) → fr ++ g ≡ z ∷ tail → AllByRecursion (λ y. is_below y.entry x.entry ≡ true) fr → 0 < length fr → is_below z.entry x.entry ≡ true
    first [] g z tail e all h = absurd (omega arith)
    first (w ∷ fr) g z tail e all h = let same : w ≡ z = cc in subst (λ (y : Item). is_below y.entry x.entry ≡ true) same all.0
