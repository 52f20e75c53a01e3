-- A leaf that had no room was divided for an entry: the level above owes a name.
use Rattle.std.proofs.Common.{◌≡◌, ◌==◌, ℕ, ◌+◌, ◌<◌, ◌≤◌, Bool, true, false, cond, List, [], ◌∷◌, ◌++◌, length, take, drop, refl, sym, ap, subst, ◌∙◌, arith, nat_le, length-append, inl, inr}
use Rattle.std.specs.List.{AllByRecursion}
use Rattle.std.proofs.lemmas.Bool.{cases_lt, eq-eqb, eqb-true}
use Rattle.std.proofs.lemmas.List.{length-map}
use Rattle.aria_host.specs.declared.file_name.FileName.{FileName}
use Rattle.aria_cache.specs.PageState.{Bodies}
use Rattle.aria_keypage.specs.declared.key_page.TheConstants.{ITEM_BYTES_MAX}
use Rattle.aria_keypage.specs.declared.kind.Kind.{Kind}
use Rattle.aria_keypage.specs.declared.kind.Kind.TheVariants.{Leaf}
use Rattle.aria_keypage.specs.Item.{Item, is_below}
use Rattle.aria_keypage.specs.Merge.{taken_over}
use Rattle.aria_keypage.specs.Packed.{packed}
use Rattle.aria_keypage.specs.Content.{Content, width, first_bytes, item_bytes}
use Rattle.aria_keypage.specs.Change.{with_item}
use Rattle.aria_keypage.specs.Split.{left_half, right_half}
use Rattle.aria_keypage.proofs.Divided.{first-size}
use Rattle.aria_keypage.proofs.Sizes.{halves-least}
use Rattle.aria_keypage.proofs.Fans.{fan_before, fan-parts}
use Rattle.aria_key.specs.declared.path.Passed.{Passed}
use Rattle.aria_key.specs.Tree.{Placed, name_of, names, items_on, Rising, IsOf, IsLevel, Filled, Holds, HoldAll, IsTree}
use Rattle.aria_key.specs.Step.{Has, in_right}
use Rattle.aria_key.specs.Climb.{above}
use Rattle.aria_key.specs.Place.{IsFound}
use Rattle.aria_key.specs.Held.{left_with, right_with, IsPutInHalf}
use Rattle.aria_key.specs.Owned.{times_on, times_in, with_entry}
use Rattle.aria_key.specs.Standing.{Standing}
use Rattle.aria_key.proofs.Lists.{all-append, all-left, all-right, all-at}
use Rattle.aria_key.proofs.Descending.{page-rises}
use Rattle.aria_key.proofs.Bounds.{names-append}
use Rattle.aria_key.proofs.Changing.{items-around}
use Rattle.aria_key.proofs.Climbing.{rest}
use Rattle.aria_key.proofs.Dividing.{holding, right_of, Fits, put-left, put-right}
use Rattle.aria_key.proofs.Leaf.{between-parts}
use Rattle.aria_key.proofs.Owning.{times-append, times-onto, all-onto, off-level, off-levels, with-entry-at}
use Rattle.aria_key.proofs.Children.{place-within}
use Rattle.aria_key.proofs.Filling.{fits-most, halves-filled, level-filled}
use Rattle.aria_key.proofs.Ready.{le-of, lt-of}
use Rattle.aria_key.proofs.Upward.{halved, frame-two, frame-all}

-- a page without items has 4 item bytes at most
few-bytes : (c : Content) → length c.items ≤ 0 → length (item_bytes c) ≤ 4
unfolding item_bytes packed
few-bytes c none = by c.items none
  where
    by : (xs : List Item) → length xs ≤ 0 → length (first_bytes c.kind c.first ++ packed (width c.kind) [] xs) ≤ 4
    by [] h = omega (arith, length-append (first_bytes c.kind c.first) [], first-size c.kind c.first)
    by (x ∷ xs) h = absurd (omega arith)

-- a half that is full enough has items
pub some-right : (c : Content) (k : ℕ) → 2045 ≤ length (item_bytes (right_half c k)) → 0 < length (right_half c k).items
some-right c k full = elim (cases_lt 0 (length (right_half c k).items)) as (λ _. 0 < length (right_half c k).items) [
  | inl lt ↦ lt
  | inr ge ↦ absurd (omega (arith, few-bytes (right_half c k) (omega arith), full))
]

-- an item is put into one of the two halves
pub put-either : (kind : Kind) (key : ℕ) (xs : List Item) (a b : List Placed) (p : Placed) (k fresh at : ℕ) (x : Item) → IsLevel kind key xs (a ++ p ∷ b) → 0 < k → k < length p.content.items → 0 < length (right_half p.content k).items → Fits p at x b → at ≤ length p.content.items
    → Has kind key (names a ++ name_of p ∷ name_of (right_of p k fresh) ∷ names b) (halved a p k fresh (left_with p.content k at x) (right_with p.content k at x) b)
    ((items_on a ++ fan_before p.low p.content at) ++ x ∷ (drop at p.content.items ++ items_on b))
put-either kind key xs a b p k fresh at x h some low more f within = by (nat_le at k) refl
  where
    d : Content
    d = p.content

    by : (t : Bool) → nat_le at k ≡ t
        → Has kind key (names a ++ name_of p ∷ name_of (right_of p k fresh) ∷ names b) (halved a p k fresh (cond t (with_item (left_half d k) at x) (left_half d k)) (cond t (right_half d k) (with_item (right_half d k) (in_right d.kind k at) x)) b)
        ((items_on a ++ fan_before p.low p.content at) ++ x ∷ (drop at p.content.items ++ items_on b))
    by true e = put-left kind key xs a b p k fresh at x h some low more f (le-of at k e)
    by false e = put-right kind key xs a b p k fresh at x h some low more f (lt-of at k e) within

-- from the tree in which its leaf was found, to levels that owe a name
pub started : (file : FileName) (old new : Bodies) (count more key root : ℕ) (levels : List (List Placed)) (walk : List Item) (page at fresh : ℕ) (x : Item) (between : List ℕ) (path : List Passed) → IsTree (old file) count key root levels walk → ((m : ℕ) → times_in m levels ≤ 1) → count ≤ more
    → fresh < more → times_in fresh levels ≡ 0 → (f : IsFound (old file) count key root x.entry levels walk page at false path) → (h : IsPutInHalf file page fresh f.on.here.content at x between old new) → length x.entry ≤ 1000 → ITEM_BYTES_MAX < length (item_bytes (with_item f.on.here.content at x))
    → Standing (new file) more key root f.ups (halved f.on.before f.on.here h.k fresh (left_with f.on.here.content h.k at x) (right_with f.on.here.content h.k at x) f.on.behind) [] (with_entry x walk) (length f.on.before) (name_of (right_of f.on.here h.k fresh))
started file old new count more key root levels walk page at fresh x between path t once grows low unused f h short full =
    let a : List Placed = f.on.before in
    let b : List Placed = f.on.behind in
    let p : Placed = f.on.here in
    let q : Placed = holding p (left_with p.content h.k at x) in
    let r : Placed = holding (right_of p h.k fresh) (right_with p.content h.k at x) in
    let l : List Placed = a ++ q ∷ r ∷ b in
    let level : IsLevel Leaf key (above root f.ups) (a ++ p ∷ b) = subst (IsLevel Leaf key (above root f.ups)) f.on.parts f.under.0 in
    let leaf : p.content.kind ≡ Leaf = (all-at (IsOf Leaf key) a p b (a ++ p ∷ b) refl level.kinds).kind_is in
    let rises : Rising p.content.items = subst Rising (ap (λ (t : Kind). taken_over t p.low p.content.first p.content.items) leaf) (page-rises a b p f.leaves f.on.parts f.under.0.rising) in
    let lies = between-parts x.entry p.content.items at rises f.place in
    let fits : Fits p at x b = record {
      between = record { below = subst (λ (t : Kind). AllByRecursion (λ y. is_below y.entry x.entry ≡ true) (taken_over t p.low p.content.first (take at p.content.items))) (sym leaf) lies.below; above = lies.above };
      low = f.on.low;
      high = f.on.high;
    } in
    let within : at ≤ length p.content.items = place-within x.entry p.content.items at false f.place in
    let least = halves-least p.content h.k h.sizes (omega (arith, fits-most p at x b fits within short, full)) in
    let put = put-either Leaf key (above root f.ups) a b p h.k fresh at x level h.sizes.some h.sizes.more (some-right p.content h.k least.1) fits within in
    let filled : Filled l = level-filled root f.ups a b p (q ∷ r ∷ []) level.named (λ e. subst Filled f.on.parts (f.under.1 e)) (halves-filled p at h.k fresh x b fits within short h.sizes full) in
    let front : List Item = items_on a ++ fan_before p.low p.content at in
    let back : List Item = drop at p.content.items ++ items_on b in
    let was : walk ≡ front ++ back = f.under.2 ∙ ap items_on f.on.parts ∙ items-around a b p (fan_before p.low p.content at) (drop at p.content.items) (fan-parts p.low p.content at) in
    let now : with_entry x walk ≡ items_on l = ap (with_entry x) was ∙ with-entry-at x front back (subst Rising put.items_are put.level.rising) ∙ sym put.items_are in
    let whole = λ (m : ℕ). ap (times_in m) (sym f.whole) ∙ times-onto m f.ups (f.leaves ∷ []) in
    let parts = λ (m : ℕ). ap (times_on m) f.on.parts ∙ times-append m a (p ∷ b) in
    let self : times_on page (p ∷ b) ≡ 1 + times_on page b = ap (λ (t : Bool). cond t 1 0 + times_on page b) (eq-eqb page p.page (sym f.on.page_is)) in
    let own = λ (m : ℕ). times-append m a (q ∷ r ∷ b) in
    let all = all-onto (AllByRecursion (Holds (old file) count)) f.ups (f.leaves ∷ []) (subst (HoldAll (old file) count) (sym f.whole) t.hold) in
    let held : AllByRecursion (Holds (old file) count) (a ++ p ∷ b) = subst (AllByRecursion (Holds (old file) count)) f.on.parts all.1.0 in
    record {
      owes = record {
        front = names a;
        y = name_of p;
        back = names b;
        over = f.over;
        filled = rest f.ups f.filled;
        named = put.level.named;
        old = sym f.under.0.named ∙ ap (λ (m : List Placed). names m) f.on.parts ∙ names-append a (p ∷ b);
        index = length-map a name_of;
        under = (record { named = refl; kinds = put.level.kinds; rising = put.level.rising; bounded = put.level.bounded }, (λ e. filled), now);
      };
      hold_ups = frame-all file page fresh old new count more f.ups h.other grows (off-levels page f.ups (omega (arith, once page, whole page, parts page, self))) (off-levels fresh f.ups (omega (arith, unused, whole fresh))) all.0;
      hold = (
        all-append (Holds (new file) more) a (q ∷ r ∷ b)
            (frame-two file page fresh old new count more a h.other grows (off-level page a (omega (arith, once page, whole page, parts page, self))) (off-level fresh a (omega (arith, unused, whole fresh, parts fresh))) (all-left (Holds (old file) count) a (p ∷ b) held)) (
              record { low = omega (arith, (all-right (Holds (old file) count) a (p ∷ b) held).0.low); body = h.left.body; there = ap (new file) f.on.page_is ∙ h.left.there; size = h.left.size; spells = h.left.spells },
              (
                record { low = low; body = h.right.body; there = h.right.there; size = h.right.size; spells = h.right.spells },
                frame-two file page fresh old new count more b h.other grows (off-level page b (omega (arith, once page, whole page, parts page, self))) (off-level fresh b (omega (arith, unused, whole fresh, parts fresh))) (all-right (Holds (old file) count) a (p ∷ b) held).1,
              ),
            ),
        tt,
      );
      once = λ m. by m (m == fresh) refl (whole m) (parts m) (own m) (once m);
    }
  where
    number : {s t : Bool} → s ≡ t → cond s 1 0 + 0 ≡ cond t 1 0 + 0
    number e = ap (λ (t : Bool). cond t 1 0 + 0) e

    by : (m : ℕ) (z : Bool) → (m == fresh) ≡ z → times_in m levels ≡ times_in m f.ups + times_in m (f.leaves ∷ []) → times_on m f.leaves ≡ times_on m f.on.before + times_on m (f.on.here ∷ f.on.behind)
        → times_on m (halved f.on.before f.on.here h.k fresh (left_with f.on.here.content h.k at x) (right_with f.on.here.content h.k at x) f.on.behind) ≡ times_on m f.on.before + (cond (m == f.on.here.page) 1 0 + (cond (m == fresh) 1 0 + times_on m f.on.behind))
        → times_in m levels ≤ 1 → times_in m f.ups + times_in m (halved f.on.before f.on.here h.k fresh (left_with f.on.here.content h.k at x) (right_with f.on.here.content h.k at x) f.on.behind ∷ []) ≤ 1
    by m true e whole parts own once =
        let none : times_in m levels ≡ 0 = subst (λ (k : ℕ). times_in k levels ≡ 0) (sym (eqb-true m fresh e)) unused in
        omega (arith, none, whole, parts, own, number e)
    by m false e whole parts own once = omega (arith, once, whole, parts, own, number e)
