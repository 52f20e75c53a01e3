-- An entry is put into a leaf that has room.
use Rattle.std.proofs.Common.{◌≡◌, ℕ, ◌+◌, ◌<◌, ◌≤◌, Bool, true, false, cond, Option, List, [], ◌∷◌, ◌++◌, length, take, drop, refl, sym, ap, subst, ◌∙◌, arith, length-append, IsTrue}
use Rattle.std.specs.List.{AllByRecursion}
use Rattle.std.proofs.lemmas.List.{take_at, drop_at}
use Rattle.std.proofs.lemmas.Bool.{eq-eqb}
use Rattle.aria_host.specs.declared.file_name.FileName.{FileName}
use Rattle.aria_cache.specs.PageState.{Bodies}
use Rattle.aria_keypage.specs.declared.kind.Kind.{Kind}
use Rattle.aria_keypage.specs.declared.kind.Kind.TheVariants.{Leaf}
use Rattle.aria_keypage.specs.Item.{Item, item_at, is_below, IsPosition}
use Rattle.aria_keypage.specs.Merge.{taken_over}
use Rattle.aria_keypage.specs.Content.{Content, item_bytes}
use Rattle.aria_keypage.specs.Change.{with_item}
use Rattle.aria_key.specs.declared.path.Passed.{Passed}
use Rattle.aria_key.specs.Tree.{Placed, items_on, Rising, IsOf, IsLevel, Filled, Holds, HoldAll, IsTree, HasTree}
use Rattle.aria_key.specs.Step.{IsBetween}
use Rattle.aria_key.specs.Climb.{above, onto}
use Rattle.aria_key.specs.Place.{IsFound}
use Rattle.aria_key.specs.Held.{HasContent, Rewritten, IsPut}
use Rattle.std.specs.Prelude.{Ok, Err, IfOk, OnOk, Result}
use Rattle.aria_key.specs.Owned.{times_on, times_in, with_entry}
use Rattle.aria_key.proofs.Lists.{all-append, all-left, all-right, all-at, all-weaker}
use Rattle.aria_key.proofs.Order.{below-trans, above-unless, rising-right, Parted, parted}
use Rattle.aria_key.proofs.Descending.{item-middle, page-rises}
use Rattle.aria_key.proofs.Children.{place-within}
use Rattle.aria_keypage.proofs.Fans.{fan_before, fan-parts}
use Rattle.aria_key.proofs.Dividing.{holding, Fits, put-whole}
use Rattle.aria_key.proofs.Changing.{items-around}
use Rattle.aria_key.proofs.Climbing.{closed, filled-instead}
use Rattle.aria_keypage.proofs.Sizes.{with_item-longer}
use Rattle.aria_key.proofs.Owning.{times-append, times-onto, length-onto, all-onto, onto-all, off-level, off-levels, frame, frame-levels, written, with-entry-at}

-- an entry that isn't there lies between the items before its place and those from it on
pub between-parts : (entry : List ℕ) (items : List Item) (at : ℕ) → Rising items → IsPosition entry items at false → IsBetween (take at items) entry (drop at items)
between-parts entry items at r is =
    let h : Parted entry items at = subst (Parted entry items) (sym is.first) (parted entry items r) in
    let front : take at items ≡ h.lower = ap (take at) h.parts ∙ take_at h.lower h.upper at h.count in
    let back : drop at items ≡ h.upper = ap (drop at) h.parts ∙ drop_at h.lower h.upper at h.count in
    record {
      below = subst (AllByRecursion (λ x. is_below x.entry entry ≡ true)) (sym front) h.below;
      above = subst (AllByRecursion (λ x. is_below entry x.entry ≡ true)) (sym back) (high h.lower h.upper h.count h.parts h.above);
    }
  where
    high : (lower upper : List Item) → length lower ≡ at → items ≡ lower ++ upper → AllByRecursion (λ z. is_below z.entry entry ≡ false) upper → AllByRecursion (λ z. is_below entry z.entry ≡ true) upper
    high lower [] n e a = tt
    high lower (u ∷ us) n e a =
        let there : item_at items at ≡ u = (λ i. item_at (e i) (sym n i)) ∙ item-middle lower u us in
        let within : at < length items = omega (arith, n, ap length e, length-append lower (u ∷ us)) in
        let up : is_below entry u.entry ≡ true = above-unless entry u.entry a.0 (λ s. let t : IsTrue false = is.found.1 (within, ap (λ (z : Item). z.entry) there ∙ s) in absurd cc) in
        (up, all-weaker (λ z. is_below u.entry z.entry ≡ true) (λ z. is_below entry z.entry ≡ true) us (λ z q. below-trans entry u.entry z.entry up q) (rising-right lower (u ∷ us) (subst Rising e r)).0)

-- the tree after an item was put into the leaf that was found
pub leaf-put-tree : (file : FileName) (old new : Bodies) (count more key root : ℕ) (x : Item) (levels : List (List Placed)) (walk : List Item) (page at : ℕ) (path : List Passed) → IsTree (old file) count key root levels walk → ((n : ℕ) → times_in n levels ≤ 1) → count ≤ more
    → (f : IsFound (old file) count key root x.entry levels walk page at false path) → Rewritten file page (with_item f.on.here.content at x) old new
    → IsTree (new file) more key root (onto f.ups ((f.on.before ++ holding f.on.here (with_item f.on.here.content at x) ∷ f.on.behind) ∷ [])) (with_entry x walk)
leaf-put-tree file old new count more key root x levels walk page at path t once grows f w =
    let p : Placed = f.on.here in
    let a : List Placed = f.on.before in
    let b : List Placed = f.on.behind in
    let q : Placed = holding p (with_item p.content at x) in
    let level : IsLevel Leaf key (above root f.ups) (a ++ p ∷ b) = subst (IsLevel Leaf key (above root f.ups)) f.on.parts f.under.0 in
    let leaf : p.content.kind ≡ Leaf = (all-at (IsOf Leaf key) a p b (a ++ p ∷ b) refl level.kinds).kind_is in
    let rises : Rising p.content.items = subst Rising (ap (λ (t : Kind). taken_over t p.low p.content.first p.content.items) leaf) (page-rises a b p f.leaves f.on.parts f.under.0.rising) in
    let between = between-parts x.entry p.content.items at rises f.place in
    let fits : Fits p at x b = record {
      between = record { below = subst (λ (t : Kind). AllByRecursion (λ y. is_below y.entry x.entry ≡ true) (taken_over t p.low p.content.first (take at p.content.items))) (sym leaf) between.below; above = between.above };
      low = f.on.low;
      high = f.on.high;
    } in
    let put = put-whole Leaf key (above root f.ups) a b p at x level fits in
    let front : List Item = items_on a ++ fan_before p.low p.content at in
    let back : List Item = drop at p.content.items ++ items_on b in
    let was : walk ≡ front ++ back = f.under.2 ∙ ap items_on f.on.parts ∙ items-around a b p (fan_before p.low p.content at) (drop at p.content.items) (fan-parts p.low p.content at) in
    let now : with_entry x walk ≡ items_on (a ++ q ∷ b) = ap (with_entry x) was ∙ with-entry-at x front back (subst Rising put.items_are put.level.rising) ∙ sym put.items_are in
    let longer = with_item-longer p.content at x (place-within x.entry p.content.items at false f.place) in
    let n : ℕ = p.page in
    let parts : times_in n levels ≡ times_in n f.ups + (times_on n a + (times_on n (p ∷ b))) + 0 =
    omega (arith, ap (times_in n) (sym f.whole), times-onto n f.ups (f.leaves ∷ []), ap (times_on n) f.on.parts, times-append n a (p ∷ b)) in
    let self : times_on n (p ∷ b) ≡ 1 + times_on n b = ap (λ (t : Bool). (cond t 1 0) + times_on n b) (eq-eqb n n refl) in
    let one : times_in n levels ≤ 1 = once n in
    let held = all-onto (AllByRecursion (Holds (old file) count)) f.ups (f.leaves ∷ []) (subst (HoldAll (old file) count) (sym f.whole) t.hold) in
    let leaves : AllByRecursion (Holds (old file) count) (a ++ p ∷ b) = subst (AllByRecursion (Holds (old file) count)) f.on.parts held.1.0 in
    let rewritten : Rewritten file n (with_item p.content at x) old new = subst (λ (m : ℕ). Rewritten file m (with_item p.content at x) old new) (sym f.on.page_is) w in
    record {
      some = omega (arith, length-onto f.ups ((a ++ q ∷ b) ∷ []));
      few = omega (arith, length-onto f.ups ((a ++ q ∷ b) ∷ []), length-onto f.ups (f.leaves ∷ []), ap length f.whole, t.few);
      under = closed key root f.ups (a ++ q ∷ b) [] (with_entry x walk) f.over f.filled (
        put.level,
        (λ r. let old : Filled (a ++ p ∷ b) = subst Filled f.on.parts (f.under.1 r) in
            filled-instead a b p (q ∷ []) old (omega (arith, longer, (all-right (λ r. 2045 ≤ length (item_bytes r.content)) a (p ∷ b) old).0), tt)),
        now,
      );
      hold = onto-all (AllByRecursion (Holds (new file) more)) f.ups ((a ++ q ∷ b) ∷ [])
          (frame-levels file n (with_item p.content at x) old new count more f.ups rewritten grows (off-levels n f.ups (omega (arith, parts, self, one))) held.0) (
            all-append (Holds (new file) more) a (q ∷ b)
                (frame file n (with_item p.content at x) old new count more a rewritten grows (off-level n a (omega (arith, parts, self, one))) (all-left (Holds (old file) count) a (p ∷ b) leaves)) (
                  written file (with_item p.content at x) old new count more p rewritten grows (all-right (Holds (old file) count) a (p ∷ b) leaves).0,
                  frame file n (with_item p.content at x) old new count more b rewritten grows (off-level n b (omega (arith, parts, self, one))) (all-right (Holds (old file) count) a (p ∷ b) leaves).1,
                ),
            tt,
          );
    }

pub leaf-put : (file : FileName) (old new : Bodies) (count more key root : ℕ) (x : Item) (levels : List (List Placed)) (walk : List Item) (page at : ℕ) (path : List Passed) → IsTree (old file) count key root levels walk → ((n : ℕ) → times_in n levels ≤ 1) → count ≤ more
    → (f : IsFound (old file) count key root x.entry levels walk page at false path) → Rewritten file page (with_item f.on.here.content at x) old new
    → HasTree (new file) more key root (with_entry x walk)
leaf-put file old new count more key root x levels walk page at path t once grows f w = record { levels = _; tree = leaf-put-tree file old new count more key root x levels walk page at path t once grows f w }

-- what the leaf holds that was found
pub leaf-holds : (bodies : ℕ → Option (List ℕ)) (count key root : ℕ) (entry : List ℕ) (levels : List (List Placed)) (walk : List Item) (page at : ℕ) (same : Bool) (path : List Passed) → (f : IsFound bodies count key root entry levels walk page at same path) → HasContent bodies page f.on.here.content
leaf-holds bodies count key root entry levels walk page at same path f =
    let h : Holds bodies count f.on.here = all-at (Holds bodies count) f.on.before f.on.here f.on.behind f.leaves f.on.parts f.hold.0 in
    record { body = h.body; there = ap bodies (sym f.on.page_is) ∙ h.there; size = h.size; spells = h.spells }

-- the same, from what the calls say
pub leaf-result : {E : Type 0} (file : FileName) (old new : Bodies) (count more key root : ℕ) (x : Item) (levels : List (List Placed)) (walk : List Item) (page at : ℕ) (same : Bool) (path : List Passed) → IsTree (old file) count key root levels walk → ((n : ℕ) → times_in n levels ≤ 1) → same ≡ false
    → IsFound (old file) count key root x.entry levels walk page at same path → (r : Result Bool E) → ((c : Content) → HasContent (old file) page c → IfOk r (λ done. IsPut file page c at x old new done)) → OnOk r (count ≤ more)
    → IfOk r (λ done. IsTrue done → HasTree (new file) more key root (with_entry x walk))
leaf-result file old new count more key root x levels walk page at same path t once other f (Err e) puts grows = tt
leaf-result file old new count more key root x levels walk page at same path t once other f (Ok false) puts grows = λ d. absurd cc
leaf-result file old new count more key root x levels walk page at same path t once other f (Ok true) puts grows =
    λ d. by (subst (λ (t : Bool). IsFound (old file) count key root x.entry levels walk page at t path) other f)
  where
    by : IsFound (old file) count key root x.entry levels walk page at false path → HasTree (new file) more key root (with_entry x walk)
    by f = leaf-put file old new count more key root x levels walk page at path t once grows f (puts f.on.here.content (leaf-holds (old file) count key root x.entry levels walk page at false path f))
