-- The items of two pages are divided anew: the node above names the right one by another entry.
use Rattle.std.proofs.Common.{◌≡◌, ◌==◌, ◌&&◌, ◌⊎◌, nat_le, ℕ, ◌+◌, ◌<◌, ◌≤◌, false, List, ◌∷◌, ◌++◌, length, refl, sym, ap, subst, ◌∙◌, arith}
use Rattle.std.specs.Prelude.{Option, nat_lt}
use Rattle.std.specs.List.{AllByRecursion}
use Rattle.std.proofs.lemmas.List.{length-map}
use Rattle.aria_host.specs.declared.file_name.FileName.{FileName}
use Rattle.aria_cache.specs.PageState.{Bodies}
use Rattle.aria_keypage.specs.declared.key_page.TheConstants.{ITEM_BYTES_LOW, ITEM_BYTES_MAX}
use Rattle.aria_keypage.specs.declared.kind.Kind.{Kind}
use Rattle.aria_keypage.specs.declared.kind.Kind.TheVariants.{Node}
use Rattle.aria_keypage.specs.Item.{Item}
use Rattle.aria_keypage.specs.Content.{Content, item_bytes}
use Rattle.aria_keypage.specs.Change.{with_item, without_item}
use Rattle.aria_keypage.specs.Merge.{joined}
use Rattle.aria_keypage.specs.Split.{AreHalves, left_half, right_half}
use Rattle.aria_keypage.proofs.Sizes.{halves-least}
use Rattle.aria_key.specs.declared.path.Passed.{Passed}
use Rattle.aria_key.specs.Tree.{Placed, name_of, items_on, names, IsLevel, Filled, kind_over, Under, Holds}
use Rattle.aria_key.specs.Step.{Has}
use Rattle.aria_key.specs.Climb.{above, IsChild}
use Rattle.aria_key.specs.Held.{HasContent}
use Rattle.aria_key.specs.Owned.{times_on, times_in}
use Rattle.aria_key.specs.IndexFile.{times_free}
use Rattle.aria_key.specs.Thinning.{Thinned}
use Rattle.aria_key.proofs.Lists.{all-append, all-left, all-right}
use Rattle.aria_key.proofs.Bounds.{names-append}
use Rattle.aria_key.proofs.Dividing.{holding, right_of}
use Rattle.aria_key.proofs.Joining.{both_of, shared-level}
use Rattle.aria_key.proofs.Lessening.{Swaps}
use Rattle.aria_key.proofs.Owning.{times-append}
use Rattle.aria_key.proofs.Starting.{some-right}
use Rattle.aria_key.proofs.Spare.{flag, span-under, chain-still}
use Rattle.aria_key.proofs.Ascending.{same-times}
use Rattle.aria_key.proofs.Filing.{held-still, levels-still}
use Rattle.aria_key.proofs.Thick.{filled_but}
use Rattle.aria_key.proofs.Beside.{AreBeside, filled_two}
use Rattle.aria_key.proofs.Beneath.{IsBeneath, flag_one, still_other, others_in, others_once}
use Rattle.aria_key.proofs.Uniting.{near_index}
use Rattle.aria_key.proofs.Swapping.{rename-name}

-- the level with the two pages, divided anew at i
abbrev pub anew : List Placed → Placed → Placed → ℕ → List Placed → List Placed
anew a p r i b = a ++ holding p (left_half (joined p.content r.low r.content) i) ∷ right_of (both_of p r) i r.page ∷ b

-- the item that names the right one then
abbrev pub name_anew : Placed → Placed → ℕ → Item
name_anew p r i = name_of (right_of (both_of p r) i r.page)

-- the level then, and how the levels above name the right one
pub record AreAnew (key root : ℕ) (us : List (List Placed)) (u : List Placed) (downs : List (List Placed)) (walk : List Item) (n : ℕ) (a : List Placed) (p r : Placed) (i : ℕ) (b : List Placed) : Type 0 where
  pub swaps : Swaps key root (u ∷ us) (anew a p r i b) downs walk n (name_anew p r i)
  pub level : Has (kind_over downs) key (names a ++ name_of p ∷ name_anew p r i ∷ names b) (anew a p r i b) (items_on (a ++ p ∷ r ∷ b))
  pub full : Filled (anew a p r i b)
  pub below : Under false key (items_on (anew a p r i b)) downs walk

pub divided_anew : (file : FileName) (was now : Bodies) (before count key root : ℕ) (levels : List (List Placed)) (chain : List ℕ) (walk : List Item) (front : List Passed) (last : Passed) (page free k i : ℕ) → (s : IsBeneath file was now before count key root levels chain walk front last page free)
    → (w : AreBeside s.u s.l s.n last.page last.at k s.child) → (last.at ≡ k) ⊎ (last.at ≡ k + 1) → AreHalves (joined w.p.content w.r.low w.r.content) i → ITEM_BYTES_MAX < length (item_bytes (joined w.p.content w.r.low w.r.content))
    → AreAnew key root s.us s.u s.downs walk (length (items_on s.child.before) + k) w.a w.p w.r i w.b
divided_anew file was now before count key root levels chain walk front last page free k i s w near halves many =
    let kind : Kind = kind_over s.downs in
    let c : Content = joined w.p.content w.r.low w.r.content in
    let level : IsLevel kind key (items_on s.u) (w.a ++ w.p ∷ w.r ∷ w.b) = subst (IsLevel kind key (items_on s.u)) w.parts s.level in
    let least = halves-least c i halves (omega (arith, many)) in
    let j = shared-level kind key (items_on s.u) w.a w.b w.p w.r i level halves.some halves.more (some-right c i least.1) in
    let some = filled_two w.a w.p w.r w.b s.l s.n w.parts (near_index k last.at s.n (length (items_on s.child.before)) (length w.a) s.child.index w.index near) s.but in
    let full : Filled (anew w.a w.p w.r i w.b) = all-append (λ q. ITEM_BYTES_LOW ≤ length (item_bytes q.content)) w.a (holding w.p (left_half c i) ∷ right_of (both_of w.p w.r) i w.r.page ∷ w.b) some.ahead (least.0, (least.1, some.behind)) in
    let same : items_on (anew w.a w.p w.r i w.b) ≡ items_on s.l = j.items_are ∙ ap items_on (sym w.parts) in
    let below : Under false key (items_on (anew w.a w.p w.r i w.b)) s.downs walk = subst (λ (xs : List Item). Under false key xs s.downs walk) (sym same) s.below in
    record {
      swaps = record {
        front = names w.a;
        y = name_of w.p;
        z = name_of w.r;
        back = names w.b;
        over = s.over;
        filled = s.filled;
        named = j.level.named;
        old = sym s.level.named ∙ ap (λ (m : List Placed). names m) w.parts ∙ names-append w.a (w.p ∷ w.r ∷ w.b);
        index = length-map w.a name_of ∙ w.index;
        under = (record { named = refl; kinds = j.level.kinds; rising = j.level.rising; bounded = j.level.bounded }, (λ e. full), below);
      };
      level = j;
      full = full;
      below = below;
    }

-- a level whose two pages were divided anew
pub anew-holds : (old new : ℕ → Option (List ℕ)) (count more : ℕ) (a : List Placed) (p r : Placed) (i : ℕ) (b : List Placed) → count ≤ more → ((m : ℕ) → 0 < times_on m a + times_on m b → new m ≡ old m) → HasContent new p.page (left_half (joined p.content r.low r.content) i) → HasContent new r.page (right_half (joined p.content r.low r.content) i)
    → AllByRecursion (Holds old count) (a ++ p ∷ r ∷ b) → AllByRecursion (Holds new more) (anew a p r i b)
anew-holds old new count more a p r i b grows still left right h =
    let own = all-right (Holds old count) a (p ∷ r ∷ b) h in
    all-append (Holds new more) a (holding p (left_half (joined p.content r.low r.content) i) ∷ right_of (both_of p r) i r.page ∷ b)
    (held-still old new count more a grows (λ m k. still m (omega (arith, k))) (all-left (Holds old count) a (p ∷ r ∷ b) h)) (
      record { low = omega (arith, own.0.low, grows); body = left.body; there = left.there; size = left.size; spells = left.spells },
      (
        record { low = omega (arith, own.1.0.low, grows); body = right.body; there = right.there; size = right.size; spells = right.spells },
        held-still old new count more b grows (λ m k. still m (omega (arith, k))) own.1.1,
      ),
    )

-- one step up, where the node had room
pub shares : (file : FileName) (was old new : Bodies) (before count key root : ℕ) (levels : List (List Placed)) (chain : List ℕ) (walk : List Item) (front : List Passed) (last : Passed) (page free k i : ℕ) → (s : IsBeneath file was old before count key root levels chain walk front last page free)
    → (w : AreBeside s.u s.l s.n last.page last.at k s.child) → (last.at ≡ k) ⊎ (last.at ≡ k + 1) → k < length s.child.here.content.items → AreHalves (joined w.p.content w.r.low w.r.content) i → ITEM_BYTES_MAX < length (item_bytes (joined w.p.content w.r.low w.r.content))
    → HasContent (new file) w.p.page (left_half (joined w.p.content w.r.low w.r.content) i) → HasContent (new file) w.r.page (right_half (joined w.p.content w.r.low w.r.content) i)
    → HasContent (new file) s.child.here.page (with_item (without_item s.child.here.content k) k (name_anew w.p w.r i)) → ((m : ℕ) → (m ≡ w.p.page → ⊥) → (m ≡ w.r.page → ⊥) → (m ≡ s.child.here.page → ⊥) → new file m ≡ old file m)
    → Thinned file was new before count key root levels chain walk front last.page free
shares file was old new before count key root levels chain walk front last page free k i s w near low halves many left right held other = record {
  apart = s.apart;
  ups = s.us;
  l = v;
  downs = anew w.a w.p w.r i w.b ∷ s.downs;
  n = length s.child.before;
  over = s.over.1;
  filled = s.filled.1;
  level = up.level;
  but = λ e. filled_but s.child.before s.child.here q s.child.behind (subst Filled s.child.parts (s.filled.0 e));
  below = (
    record { named = sym up.items_are; kinds = g.level.level.kinds; rising = g.level.level.rising; bounded = g.level.level.bounded },
    (λ e. g.full),
    g.below,
  );
  nth = record { before = s.child.before; here = q; behind = s.child.behind; parts = refl; page_is = s.child.page_is; index = refl };
  way = s.way;
  size = omega (arith, s.size);
  hold_ups = levels-still (old file) (new file) count count s.us (omega arith) (λ m h. still m (omega (arith, h))) s.hold_ups.1;
  hold = (
    all-append (Holds (new file) count) s.child.before (q ∷ s.child.behind)
        (held-still (old file) (new file) count count s.child.before (omega arith) (λ m h. still m (omega (arith, h))) (all-left (Holds (old file) count) s.child.before (s.child.here ∷ s.child.behind) upper)) (
          record { low = own.0.low; body = held.body; there = held.there; size = held.size; spells = held.spells },
          held-still (old file) (new file) count count s.child.behind (omega arith) (λ m h. still m (omega (arith, h))) own.1,
        ),
    (
      anew-holds (old file) (new file) count count w.a w.p w.r i w.b (omega arith) (λ m h. still m (omega (arith, h))) left right (subst (AllByRecursion (Holds (old file) count)) w.parts s.hold.0),
      levels-still (old file) (new file) count count s.downs (omega arith) (λ m h. still m (omega (arith, h))) s.hold.1,
    ),
  );
  left = s.left;
  chain_is = chain-still (old file) (new file) free s.left (λ m h. still m (omega (arith, h))) s.chain_is;
  are = record { grows = s.are.grows; times = times };
  rest = rest;
}
  where
    q : Placed
    q = holding s.child.here (with_item (without_item s.child.here.content k) k (name_anew w.p w.r i))

    v : List Placed
    v = s.child.before ++ q ∷ s.child.behind

    g : AreAnew key root s.us s.u s.downs walk (length (items_on s.child.before) + k) w.a w.p w.r i w.b
    g = divided_anew file was old before count key root levels chain walk front last page free k i s w near halves many

    c : IsChild s.u (length (items_on s.child.before) + k) last.page k
    c = record { before = s.child.before; here = s.child.here; behind = s.child.behind; parts = s.child.parts; page_is = s.child.page_is; within = omega (arith, low); index = refl }

    up : Has Node key (above root s.us) v (names (anew w.a w.p w.r i w.b))
    up = rename-name key root s.u (anew w.a w.p w.r i w.b) s.us s.downs walk (length (items_on s.child.before) + k) last.page k (name_anew w.p w.r i) g.swaps c low

    once : (m : ℕ) → others_in s.us s.child.before s.child.behind w.a w.b s.downs s.left m + (flag (m == w.p.page) + flag (m == w.r.page) + flag (m == s.child.here.page)) ≤ 1
    once m = others_once file was old before count key root levels chain walk front last page free k s w m

    still : (m : ℕ) → 0 < others_in s.us s.child.before s.child.behind w.a w.b s.downs s.left m → new file m ≡ old file m
    still m h = still_other (old file) (new file) w.p.page w.r.page s.child.here.page (others_in s.us s.child.before s.child.behind w.a w.b s.downs s.left) other once m h

    upper : AllByRecursion (Holds (old file) count) (s.child.before ++ s.child.here ∷ s.child.behind)
    upper = subst (AllByRecursion (Holds (old file) count)) s.child.parts s.hold_ups.0

    own : AllByRecursion (Holds (old file) count) (s.child.here ∷ s.child.behind)
    own = all-right (Holds (old file) count) s.child.before (s.child.here ∷ s.child.behind) upper

    low-is : (m : ℕ) → times_on m s.l ≡ times_on m w.a + (flag (m == w.p.page) + (flag (m == w.r.page) + times_on m w.b))
    low-is m = ap (times_on m) w.parts ∙ times-append m w.a (w.p ∷ w.r ∷ w.b)

    low-now : (m : ℕ) → times_on m (anew w.a w.p w.r i w.b) ≡ times_on m w.a + (flag (m == w.p.page) + (flag (m == w.r.page) + times_on m w.b))
    low-now m = times-append m w.a (holding w.p (left_half (joined w.p.content w.r.low w.r.content) i) ∷ right_of (both_of w.p w.r) i w.r.page ∷ w.b)

    times : (m : ℕ) → (times_in m s.us + times_in m (v ∷ anew w.a w.p w.r i w.b ∷ s.downs)) + times_free m s.left ≡ times_in m levels + times_free m chain + flag (nat_le before m && nat_lt m count)
    times m = omega (arith, s.are.times m, same-times m s.u s.child.before s.child.here s.child.behind (with_item (without_item s.child.here.content k) k (name_anew w.p w.r i)) s.child.parts, low-is m, low-now m)

    rest : (m : ℕ) → m < before → times_in m levels + times_free m chain ≡ 0 → new file m ≡ was file m
    rest m h e =
        let up-is : times_on m s.u ≡ times_on m s.child.before + (flag (m == s.child.here.page) + times_on m s.child.behind) = ap (times_on m) s.child.parts ∙ times-append m s.child.before (s.child.here ∷ s.child.behind) in
        let zero-all : (times_in m (s.u ∷ s.us) + times_in m (s.l ∷ s.downs)) + times_free m s.left ≡ 0 = omega (arith, s.are.times m, e, span-under before count m h) in
        other m (λ k. absurd (omega (arith, zero-all, low-is m, flag_one m w.p.page k))) (λ k. absurd (omega (arith, zero-all, low-is m, flag_one m w.r.page k))) (λ k. absurd (omega (arith, zero-all, up-is, flag_one m s.child.here.page k)))
        ∙ s.rest m h e
