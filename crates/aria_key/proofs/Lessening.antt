-- A page that is gone is taken out of the level above.
use Rattle.std.proofs.Common.{◌≡◌, ℕ, suc, ◌+◌, ◌<◌, true, false, List, [], ◌∷◌, ◌++◌, length, take, drop, refl, sym, ap, subst, ◌∙◌, append_assoc, arith, length-append}
use Rattle.aria_keypage.specs.declared.kind.Kind.TheVariants.{Node}
use Rattle.aria_keypage.specs.Item.{Item, item_at}
use Rattle.aria_keypage.specs.Change.{without_item}
use Rattle.aria_key.specs.Tree.{Placed, items_on, names, IsOf, IsLevel, Under, top}
use Rattle.aria_key.specs.Step.{Has}
use Rattle.aria_key.specs.Climb.{above, Over, FilledOver, IsChild, Owes}
use Rattle.aria_keypage.specs.Content.{Content}
use Rattle.std.proofs.lemmas.List.{length-take}
use Rattle.aria_key.proofs.Lists.{drop-at, all-at}
use Rattle.aria_keypage.proofs.Fans.{fan_before, fan-parts, fan-remove}
use Rattle.aria_key.proofs.Dividing.{holding}
use Rattle.aria_key.proofs.Changing.{take-item}
use Rattle.aria_key.proofs.Climbing.{belongs}

-- the levels above still name a page that is gone, which stood behind page n
pub record Drops (key root : ℕ) (ups : List (List Placed)) (l : List Placed) (downs : List (List Placed)) (walk : List Item) (n : ℕ) : Type 0 where
  pub front : List Item
  pub y : Item
  pub z : Item
  pub back : List Item
  pub over : Over key root ups
  pub named : names l ≡ front ++ y ∷ back
  pub old : above root ups ≡ front ++ y ∷ z ∷ back
  pub index : length front ≡ n
  pub under : Under false key (names l) (l ∷ downs) walk

-- the page above loses the item that names it
pub drop-name : (key root : ℕ) (u l : List Placed) (us downs : List (List Placed)) (walk : List Item) (n page at : ℕ) → Drops key root (u ∷ us) l downs walk n → (c : IsChild u n page at) → at < length c.here.content.items
    → 0 < length (without_item c.here.content at).items
    → Has Node key (above root us) (c.before ++ holding c.here (without_item c.here.content at) ∷ c.behind) (names l)
drop-name key root u l us downs walk n page at o c low some =
    let p : Placed = c.here in
    let items : List Item = p.content.items in
    let w = belongs key n page at o.front o.y (o.z ∷ o.back) u (above root us) o.over.0 c o.old o.index in
    let level : IsLevel Node key (above root us) (c.before ++ p ∷ c.behind) = subst (IsLevel Node key (above root us)) c.parts o.over.0 in
    let is : IsOf Node key p = all-at (IsOf Node key) c.before p c.behind (c.before ++ p ∷ c.behind) refl level.kinds in
    let d = drop-at items at low in
    let q : Placed = holding p (without_item p.content at) in
    let taken = take-item Node key (above root us) c.before c.behind p q (fan_before p.low p.content at) (drop (at + 1) items) (item_at items at) level
    (fan-parts p.low p.content at ∙ ap (λ (m : List Item). fan_before p.low p.content at ++ m) d) (fan-remove p.low p.content at) refl refl (record { kind_is = is.kind_is; key_is = is.key_is; some = some }) in
    let behind : item_at items at ∷ (drop (at + 1) items ++ items_on c.behind) ≡ o.z ∷ o.back = ap (λ (m : List Item). m ++ items_on c.behind) (sym d) ∙ w.behind in
    let rest : drop (at + 1) items ++ items_on c.behind ≡ o.back = cc in
    record {
      level = taken.level;
      items_are = taken.items_are ∙ (λ i. w.ahead i ++ rest i) ∙ append_assoc o.front (o.y ∷ []) o.back ∙ sym o.named;
    }

-- where the root names one page alone, that is the new root
pub collapse : (key root : ℕ) (u l : List Placed) (downs : List (List Placed)) (walk : List Item) (n : ℕ) → (o : Drops key root (u ∷ []) l downs walk n) → length (items_on u) ≡ 2 → o.y.entry ≡ [] → Under true key (top o.y.to) (l ∷ downs) walk
collapse key root u l downs walk n o two none = by o.front o.back o.named (ap length o.old)
  where
    by : (front back : List Item) → names l ≡ front ++ o.y ∷ back → length (items_on u) ≡ length (front ++ o.y ∷ o.z ∷ back) → Under true key (top o.y.to) (l ∷ downs) walk
    by [] [] e n =
        let whole : names l ≡ top o.y.to = e ∙ (λ i. record { entry = none i; to = o.y.to } ∷ []) in
        (record { named = whole; kinds = o.under.0.kinds; rising = o.under.0.rising; bounded = o.under.0.bounded }, (λ r. absurd cc), o.under.2)
    by [] (b ∷ back) e n = absurd (omega arith)
    by (f ∷ front) back e n = absurd (omega (arith, length-append front (o.y ∷ o.z ∷ back)))

-- the levels above name a page with another low than it has now
pub record Swaps (key root : ℕ) (ups : List (List Placed)) (l : List Placed) (downs : List (List Placed)) (walk : List Item) (n : ℕ) (x : Item) : Type 0 where
  pub front : List Item
  pub y : Item
  pub z : Item
  pub back : List Item
  pub over : Over key root ups
  pub filled : FilledOver ups
  pub named : names l ≡ front ++ y ∷ x ∷ back
  pub old : above root ups ≡ front ++ y ∷ z ∷ back
  pub index : length front ≡ n
  pub under : Under false key (names l) (l ∷ downs) walk

-- the old name is taken out, and then the page owes the new one, at the same place
pub record Swapped (key root : ℕ) (us : List (List Placed)) (u l : List Placed) (downs : List (List Placed)) (walk : List Item) (n page at : ℕ) (x : Item) (c : Content) : Type 0 where
  pub owes : Owes key root (u ∷ us) l downs walk n x
  pub child : IsChild u n page at
  pub content_is : child.here.content ≡ c

pub swap-name : (key root : ℕ) (u l : List Placed) (us downs : List (List Placed)) (walk : List Item) (n page at : ℕ) (x : Item) → Swaps key root (u ∷ us) l downs walk n x → (c : IsChild u n page at) → at < length c.here.content.items
    → 0 < length (without_item c.here.content at).items
    → Swapped key root us (c.before ++ holding c.here (without_item c.here.content at) ∷ c.behind) l downs walk n page at x (without_item c.here.content at)
swap-name key root u l us downs walk n page at x o c low some =
    let p : Placed = c.here in
    let items : List Item = p.content.items in
    let w = belongs key n page at o.front o.y (o.z ∷ o.back) u (above root us) o.over.0 c o.old o.index in
    let level : IsLevel Node key (above root us) (c.before ++ p ∷ c.behind) = subst (IsLevel Node key (above root us)) c.parts o.over.0 in
    let is : IsOf Node key p = all-at (IsOf Node key) c.before p c.behind (c.before ++ p ∷ c.behind) refl level.kinds in
    let d = drop-at items at low in
    let q : Placed = holding p (without_item p.content at) in
    let taken = take-item Node key (above root us) c.before c.behind p q (fan_before p.low p.content at) (drop (at + 1) items) (item_at items at) level
    (fan-parts p.low p.content at ∙ ap (λ (m : List Item). fan_before p.low p.content at ++ m) d) (fan-remove p.low p.content at) refl refl (record { kind_is = is.kind_is; key_is = is.key_is; some = some }) in
    let behind : item_at items at ∷ (drop (at + 1) items ++ items_on c.behind) ≡ o.z ∷ o.back = ap (λ (m : List Item). m ++ items_on c.behind) (sym d) ∙ w.behind in
    let rest : drop (at + 1) items ++ items_on c.behind ≡ o.back = cc in
    record {
      owes = record {
        front = o.front;
        y = o.y;
        back = o.back;
        over = (taken.level, o.over.1);
        filled = o.filled.1;
        named = o.named;
        old = taken.items_are ∙ (λ i. w.ahead i ++ rest i) ∙ append_assoc o.front (o.y ∷ []) o.back;
        index = o.index;
        under = o.under;
      };
      child = record { before = c.before; here = q; behind = c.behind; parts = refl; page_is = c.page_is; within = omega (arith, length-append (take at items) (drop (suc at) items), length-take at items, low); index = c.index };
      content_is = refl;
    }
