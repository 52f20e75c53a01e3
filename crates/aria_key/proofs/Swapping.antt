-- The item that names a page gets another entry in the level above.
use Rattle.std.proofs.Common.{◌≡◌, ℕ, suc, ◌+◌, ◌<◌, true, List, [], ◌∷◌, ◌++◌, length, take, drop, refl, sym, ap, subst, ◌∙◌, append_assoc, add-one, arith, length-append}
use Rattle.std.specs.List.{AllByRecursion}
use Rattle.std.proofs.lemmas.List.{length-take, take_at, drop_at}
use Rattle.aria_keypage.specs.declared.kind.Kind.{Kind}
use Rattle.aria_keypage.specs.declared.kind.Kind.TheVariants.{Node}
use Rattle.aria_keypage.specs.Item.{Item, item_at, is_below}
use Rattle.aria_keypage.specs.Merge.{taken_over}
use Rattle.aria_keypage.specs.Change.{with_item, without_item}
use Rattle.aria_keypage.specs.Content.{Content}
use Rattle.aria_keypage.proofs.Fans.{fan, fan_before, fan-parts, fan-insert}
use Rattle.aria_key.specs.Tree.{Placed, items_of, items_on, names, Rising, IsOf, IsLevel, kind_over}
use Rattle.aria_key.specs.Step.{Has}
use Rattle.aria_key.specs.Climb.{above, IsChild}
use Rattle.aria_key.proofs.Lists.{drop-at, all-at, all-left, all-right, all-weaker}
use Rattle.aria_key.proofs.Order.{not-back, rising-across, rising-right}
use Rattle.aria_key.proofs.Changing.{swap-item}
use Rattle.aria_key.proofs.Climbing.{names-rise, belongs}
use Rattle.aria_key.proofs.Dividing.{holding}
use Rattle.aria_key.proofs.Lessening.{Swaps}

-- the items of a page whose item was replaced
pub fan_swapped : (low : List ℕ) (c : Content) (at : ℕ) (x : Item) → at < length c.items → fan low (with_item (without_item c at) at x) ≡ fan_before low c at ++ x ∷ drop (at + 1) c.items
fan_swapped low c at x h =
    let long : length (take at c.items) ≡ at = omega (arith, length-take at c.items, h) in
    let front : take at (take at c.items ++ drop (suc at) c.items) ≡ take at c.items = take_at (take at c.items) (drop (suc at) c.items) at long in
    let back : drop at (take at c.items ++ drop (suc at) c.items) ≡ drop (at + 1) c.items = drop_at (take at c.items) (drop (suc at) c.items) at long ∙ ap (λ (n : ℕ). drop n c.items) (sym (add-one at)) in
    fan-insert low (without_item c at) at x ∙ (λ i. taken_over c.kind low c.first (front i) ++ x ∷ back i)

pub rename-name : (key root : ℕ) (u l : List Placed) (us downs : List (List Placed)) (walk : List Item) (n page at : ℕ) (x : Item) → Swaps key root (u ∷ us) l downs walk n x → (c : IsChild u n page at) → at < length c.here.content.items
    → Has Node key (above root us) (c.before ++ holding c.here (with_item (without_item c.here.content at) at x) ∷ c.behind) (names l)
rename-name key root u l us downs walk n page at x o c low =
    let p : Placed = c.here in
    let items : List Item = p.content.items in
    let w = belongs key n page at o.front o.y (o.z ∷ o.back) u (above root us) o.over.0 c o.old o.index in
    let level : IsLevel Node key (above root us) (c.before ++ p ∷ c.behind) = subst (IsLevel Node key (above root us)) c.parts o.over.0 in
    let is : IsOf Node key p = all-at (IsOf Node key) c.before p c.behind (c.before ++ p ∷ c.behind) refl level.kinds in
    let d = drop-at items at low in
    let behind : item_at items at ∷ (drop (at + 1) items ++ items_on c.behind) ≡ o.z ∷ o.back = ap (λ (m : List Item). m ++ items_on c.behind) (sym d) ∙ w.behind in
    let rest : drop (at + 1) items ++ items_on c.behind ≡ o.back = cc in
    let rises : Rising ((o.front ++ o.y ∷ []) ++ x ∷ o.back) = subst Rising (o.named ∙ sym (append_assoc o.front (o.y ∷ []) (x ∷ o.back))) (names-rise (kind_over downs) key (names l) l o.under.0) in
    let below : AllByRecursion (λ z. is_below z.entry x.entry ≡ true) (items_on c.before ++ fan_before p.low p.content at) =
    subst (AllByRecursion (λ z. is_below z.entry x.entry ≡ true)) (sym w.ahead)
    (all-weaker (λ z. AllByRecursion (λ q. is_below z.entry q.entry ≡ true) (x ∷ o.back)) (λ z. is_below z.entry x.entry ≡ true) (o.front ++ o.y ∷ []) (λ z u. u.0) (rising-across (o.front ++ o.y ∷ []) (x ∷ o.back) rises)) in
    let higher : AllByRecursion (λ z. is_below x.entry z.entry ≡ true) (drop (at + 1) items ++ items_on c.behind) = subst (AllByRecursion (λ z. is_below x.entry z.entry ≡ true)) (sym rest) (rising-right (o.front ++ o.y ∷ []) (x ∷ o.back) rises).0 in
    let own : AllByRecursion (λ z. is_below z.entry x.entry ≡ true) (fan_before p.low p.content at) = all-right (λ z. is_below z.entry x.entry ≡ true) (items_on c.before) (fan_before p.low p.content at) below in
    let swapped = swap-item Node key (above root us) c.before c.behind p (holding p (with_item (without_item p.content at) at x)) (fan_before p.low p.content at) (drop (at + 1) items) (item_at items at) x level
    (fan-parts p.low p.content at ∙ ap (λ (m : List Item). fan_before p.low p.content at ++ m) d) (fan_swapped p.low p.content at x low) refl refl
    (record { kind_is = is.kind_is; key_is = is.key_is; some = omega (arith, length-append (take at (take at items ++ drop (suc at) items)) (x ∷ drop at (take at items ++ drop (suc at) items))) })
    (record { below = own; above = all-left (λ z. is_below x.entry z.entry ≡ true) (drop (at + 1) items) (items_on c.behind) higher })
    (not-back p.low x.entry (subst (λ (t : Kind). AllByRecursion (λ z. is_below z.entry x.entry ≡ true) (taken_over t p.low p.content.first (take at items))) is.kind_is own).0)
    (lows c.behind (all-right (IsOf Node key) c.before (p ∷ c.behind) level.kinds).1 (all-right (λ z. is_below x.entry z.entry ≡ true) (drop (at + 1) items) (items_on c.behind) higher)) in
    record { level = swapped.level; items_are = swapped.items_are ∙ (λ i. w.ahead i ++ x ∷ rest i) ∙ append_assoc o.front (o.y ∷ []) (x ∷ o.back) ∙ sym o.named }
  where
    lows : (b : List Placed) → AllByRecursion (IsOf Node key) b → AllByRecursion (λ z. is_below x.entry z.entry ≡ true) (items_on b) → AllByRecursion (λ r. is_below x.entry r.low ≡ true) b
    lows [] k h = tt
    lows (q ∷ b) k h = (
      (subst (λ (t : Kind). AllByRecursion (λ z. is_below x.entry z.entry ≡ true) (taken_over t q.low q.content.first q.content.items)) k.0.kind_is (all-left (λ z. is_below x.entry z.entry ≡ true) (items_of q) (items_on b) h)).0,
      lows b k.1 (all-right (λ z. is_below x.entry z.entry ≡ true) (items_of q) (items_on b) h),
    )
