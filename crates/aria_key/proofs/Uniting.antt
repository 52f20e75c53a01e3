-- A page that has too few item bytes is joined with the one beside it: the node above loses an item, or the root goes.
use Rattle.std.proofs.Common.{◌≡◌, ◌≢◌, ◌==◌, ◌&&◌, ◌⊎◌, nat_le, ℕ, ◌+◌, ◌<◌, ◌≤◌, false, List, ◌∷◌, ◌++◌, length, refl, sym, ap, subst, ◌∙◌, arith, inl, inr}
use Rattle.std.specs.Prelude.{Option, nat_lt}
use Rattle.std.specs.List.{AllByRecursion}
use Rattle.std.proofs.lemmas.List.{length-map}
use Rattle.aria_host.specs.declared.file_name.FileName.{FileName}
use Rattle.aria_cache.specs.PageState.{Bodies}
use Rattle.aria_keypage.specs.declared.key_page.TheConstants.{ITEM_BYTES_LOW}
use Rattle.aria_keypage.specs.declared.kind.Kind.{Kind}
use Rattle.aria_keypage.specs.declared.kind.Kind.TheVariants.{Node}
use Rattle.aria_keypage.specs.Item.{Item}
use Rattle.aria_keypage.specs.Content.{item_bytes}
use Rattle.aria_keypage.specs.Change.{without_item}
use Rattle.aria_keypage.specs.Merge.{joined}
use Rattle.aria_keypage.proofs.Sizes.{joined-left, joined-right}
use Rattle.aria_key.specs.declared.path.Passed.{Passed}
use Rattle.aria_key.specs.Tree.{Placed, name_of, items_on, names, IsOf, IsLevel, Filled, kind_over, Under, Holds}
use Rattle.aria_key.specs.Step.{Has}
use Rattle.aria_key.specs.Climb.{above, IsChild}
use Rattle.aria_key.specs.Held.{HasContent}
use Rattle.aria_key.specs.Owned.{times_on, times_in}
use Rattle.aria_key.specs.IndexFile.{IsFree, times_free}
use Rattle.aria_key.specs.Thinning.{Thinned}
use Rattle.aria_key.proofs.Lists.{all-append, all-left, all-right}
use Rattle.aria_key.proofs.Bounds.{names-append}
use Rattle.aria_key.proofs.Dividing.{holding}
use Rattle.aria_key.proofs.Joining.{both_of, joined-level}
use Rattle.aria_key.proofs.Lessening.{Drops, drop-name}
use Rattle.aria_key.proofs.Owning.{times-append}
use Rattle.aria_key.proofs.Spare.{flag, span-under, chain-still}
use Rattle.aria_key.proofs.Ascending.{same-times}
use Rattle.aria_key.proofs.Filing.{held-still, levels-still}
use Rattle.aria_key.proofs.Moved.{moved_header}
use Rattle.aria_key.proofs.Thick.{filled_but}
use Rattle.aria_key.proofs.Beside.{AreBeside, filled_two}
use Rattle.aria_key.proofs.Beneath.{IsBeneath, flag_one, still_other, others_in, others_once}

-- which of two children may have too few item bytes
pub near_index : (k at n base index : ℕ) → n ≡ base + at → index ≡ base + k → (at ≡ k) ⊎ (at ≡ k + 1) → (n ≡ index) ⊎ (n ≡ index + 1)
near_index k at n base index e f (inl h) = inl (omega (arith, e, f, h))
near_index k at n base index e f (inr h) = inr (omega (arith, e, f, h))

-- a page that takes over all items of another has enough item bytes, where one of the two had
both-filled : (p r : Placed) → r.content.kind ≡ p.content.kind → (ITEM_BYTES_LOW ≤ length (item_bytes p.content)) ⊎ (ITEM_BYTES_LOW ≤ length (item_bytes r.content)) → ITEM_BYTES_LOW ≤ length (item_bytes (joined p.content r.low r.content))
both-filled p r same (inl h) = omega (arith, h, joined-left p.content r.content r.low)
both-filled p r same (inr h) = omega (arith, h, joined-right p.content r.content r.low same)

-- the level with the joined page, and how the levels above name a page that is gone
pub record AreUnited (key root : ℕ) (us : List (List Placed)) (u : List Placed) (downs : List (List Placed)) (walk : List Item) (n : ℕ) (a : List Placed) (p r : Placed) (b : List Placed) : Type 0 where
  pub drops : Drops key root (u ∷ us) (a ++ both_of p r ∷ b) downs walk n
  pub first : drops.y ≡ name_of p
  pub level : Has (kind_over downs) key (names a ++ name_of p ∷ names b) (a ++ both_of p r ∷ b) (items_on (a ++ p ∷ r ∷ b))
  pub full : Filled (a ++ both_of p r ∷ b)
  pub below : Under false key (items_on (a ++ both_of p r ∷ b)) downs walk

pub united : (file : FileName) (was now : Bodies) (before count key root : ℕ) (levels : List (List Placed)) (chain : List ℕ) (walk : List Item) (front : List Passed) (last : Passed) (page free k : ℕ) → (s : IsBeneath file was now before count key root levels chain walk front last page free)
    → (w : AreBeside s.u s.l s.n last.page last.at k s.child) → (last.at ≡ k) ⊎ (last.at ≡ k + 1) → AreUnited key root s.us s.u s.downs walk (length (items_on s.child.before) + k) w.a w.p w.r w.b
united file was now before count key root levels chain walk front last page free k s w near =
    let kind : Kind = kind_over s.downs in
    let level : IsLevel kind key (items_on s.u) (w.a ++ w.p ∷ w.r ∷ w.b) = subst (IsLevel kind key (items_on s.u)) w.parts s.level in
    let kinds = all-right (IsOf kind key) w.a (w.p ∷ w.r ∷ w.b) level.kinds in
    let j = joined-level kind key (items_on s.u) w.a w.b w.p w.r level in
    let some = filled_two w.a w.p w.r w.b s.l s.n w.parts (near_index k last.at s.n (length (items_on s.child.before)) (length w.a) s.child.index w.index near) s.but in
    let full : Filled (w.a ++ both_of w.p w.r ∷ w.b) =
    all-append (λ q. ITEM_BYTES_LOW ≤ length (item_bytes q.content)) w.a (both_of w.p w.r ∷ w.b) some.ahead (both-filled w.p w.r (kinds.1.0.kind_is ∙ sym kinds.0.kind_is) some.one, some.behind) in
    let same : items_on (w.a ++ both_of w.p w.r ∷ w.b) ≡ items_on s.l = j.items_are ∙ ap items_on (sym w.parts) in
    let below : Under false key (items_on (w.a ++ both_of w.p w.r ∷ w.b)) s.downs walk = subst (λ (xs : List Item). Under false key xs s.downs walk) (sym same) s.below in
    record {
      drops = record {
        front = names w.a;
        y = name_of w.p;
        z = name_of w.r;
        back = names w.b;
        over = s.over;
        named = j.level.named;
        old = sym s.level.named ∙ ap (λ (m : List Placed). names m) w.parts ∙ names-append w.a (w.p ∷ w.r ∷ w.b);
        index = length-map w.a name_of ∙ w.index;
        under = (record { named = refl; kinds = j.level.kinds; rising = j.level.rising; bounded = j.level.bounded }, (λ e. full), below);
      };
      first = refl;
      level = j;
      full = full;
      below = below;
    }

-- ---- the pages then

-- What the three pages hold, and that no other page was changed.
pub record AreJoined (old new : ℕ → Option (List ℕ)) (p r q : Placed) (free : ℕ) : Type 0 where
  pub left : HasContent new p.page (joined p.content r.low r.content)
  pub right : IsFree new r.page free
  pub other : (m : ℕ) → (m ≡ p.page → ⊥) → (m ≡ r.page → ⊥) → (m ≡ q.page → ⊥) → new m ≡ old m

-- a level whose page p took over all items of the next one
pub united-holds : (old new : ℕ → Option (List ℕ)) (count : ℕ) (a : List Placed) (p r : Placed) (b : List Placed) → ((m : ℕ) → 0 < times_on m a + times_on m b → new m ≡ old m) → HasContent new p.page (joined p.content r.low r.content) → AllByRecursion (Holds old count) (a ++ p ∷ r ∷ b)
    → AllByRecursion (Holds new count) (a ++ both_of p r ∷ b)
united-holds old new count a p r b still left h =
    let own = all-right (Holds old count) a (p ∷ r ∷ b) h in
    all-append (Holds new count) a (both_of p r ∷ b)
    (held-still old new count count a (omega arith) (λ m k. still m (omega (arith, k))) (all-left (Holds old count) a (p ∷ r ∷ b) h)) (
      record { low = own.0.low; body = left.body; there = left.there; size = left.size; spells = left.spells },
      held-still old new count count b (omega arith) (λ m k. still m (omega (arith, k))) own.1.1,
    )

-- one step up
pub unites : (file : FileName) (was old new : Bodies) (before count key root : ℕ) (levels : List (List Placed)) (chain : List ℕ) (walk : List Item) (front : List Passed) (last : Passed) (page free k : ℕ) → (s : IsBeneath file was old before count key root levels chain walk front last page free)
    → (w : AreBeside s.u s.l s.n last.page last.at k s.child) → (last.at ≡ k) ⊎ (last.at ≡ k + 1) → k < length s.child.here.content.items → 0 < length (without_item s.child.here.content k).items
    → AreJoined (old file) (new file) w.p w.r s.child.here free → HasContent (new file) s.child.here.page (without_item s.child.here.content k)
    → Thinned file was new before count key root levels chain walk front last.page w.r.page
unites file was old new before count key root levels chain walk front last page free k s w near low some j held = record {
  apart = s.apart;
  ups = s.us;
  l = v;
  downs = (w.a ++ both_of w.p w.r ∷ w.b) ∷ s.downs;
  n = length s.child.before;
  over = s.over.1;
  filled = s.filled.1;
  level = up.level;
  but = λ e. filled_but s.child.before s.child.here q s.child.behind (subst Filled s.child.parts (s.filled.0 e));
  below = (
    record { named = sym up.items_are; kinds = g.level.level.kinds; rising = g.level.level.rising; bounded = g.level.level.bounded },
    (λ e. g.full),
    g.below,
  );
  nth = record { before = s.child.before; here = q; behind = s.child.behind; parts = refl; page_is = s.child.page_is; index = refl };
  way = s.way;
  size = omega (arith, s.size);
  hold_ups = levels-still (old file) (new file) count count s.us (omega arith) (λ m h. still m (omega (arith, h))) s.hold_ups.1;
  hold = (
    all-append (Holds (new file) count) s.child.before (q ∷ s.child.behind)
        (held-still (old file) (new file) count count s.child.before (omega arith) (λ m h. still m (omega (arith, h))) (all-left (Holds (old file) count) s.child.before (s.child.here ∷ s.child.behind) upper)) (
          record { low = own.0.low; body = held.body; there = held.there; size = held.size; spells = held.spells },
          held-still (old file) (new file) count count s.child.behind (omega arith) (λ m h. still m (omega (arith, h))) own.1,
        ),
    (
      united-holds (old file) (new file) count w.a w.p w.r w.b (λ m h. still m (omega (arith, h))) j.left (subst (AllByRecursion (Holds (old file) count)) w.parts s.hold.0),
      levels-still (old file) (new file) count count s.downs (omega arith) (λ m h. still m (omega (arith, h))) s.hold.1,
    ),
  );
  left = w.r.page ∷ s.left;
  chain_is = (refl, header, free, j.right, chain-still (old file) (new file) free s.left (λ m h. still m (omega (arith, h))) s.chain_is);
  are = record { grows = s.are.grows; times = times };
  rest = rest;
}
  where
    q : Placed
    q = holding s.child.here (without_item s.child.here.content k)

    v : List Placed
    v = s.child.before ++ q ∷ s.child.behind

    g : AreUnited key root s.us s.u s.downs walk (length (items_on s.child.before) + k) w.a w.p w.r w.b
    g = united file was old before count key root levels chain walk front last page free k s w near

    c : IsChild s.u (length (items_on s.child.before) + k) last.page k
    c = record { before = s.child.before; here = s.child.here; behind = s.child.behind; parts = s.child.parts; page_is = s.child.page_is; within = omega (arith, low); index = refl }

    up : Has Node key (above root s.us) v (names (w.a ++ both_of w.p w.r ∷ w.b))
    up = drop-name key root s.u (w.a ++ both_of w.p w.r ∷ w.b) s.us s.downs walk (length (items_on s.child.before) + k) last.page k g.drops c low some

    once : (m : ℕ) → others_in s.us s.child.before s.child.behind w.a w.b s.downs s.left m + (flag (m == w.p.page) + flag (m == w.r.page) + flag (m == s.child.here.page)) ≤ 1
    once m = others_once file was old before count key root levels chain walk front last page free k s w m

    still : (m : ℕ) → 0 < others_in s.us s.child.before s.child.behind w.a w.b s.downs s.left m → new file m ≡ old file m
    still m h = still_other (old file) (new file) w.p.page w.r.page s.child.here.page (others_in s.us s.child.before s.child.behind w.a w.b s.downs s.left) j.other once m h

    upper : AllByRecursion (Holds (old file) count) (s.child.before ++ s.child.here ∷ s.child.behind)
    upper = subst (AllByRecursion (Holds (old file) count)) s.child.parts s.hold_ups.0

    own : AllByRecursion (Holds (old file) count) (s.child.here ∷ s.child.behind)
    own = all-right (Holds (old file) count) s.child.before (s.child.here ∷ s.child.behind) upper

    low-is : (m : ℕ) → times_on m s.l ≡ times_on m w.a + (flag (m == w.p.page) + (flag (m == w.r.page) + times_on m w.b))
    low-is m = ap (times_on m) w.parts ∙ times-append m w.a (w.p ∷ w.r ∷ w.b)

    low-now : (m : ℕ) → times_on m (w.a ++ both_of w.p w.r ∷ w.b) ≡ times_on m w.a + (flag (m == w.p.page) + times_on m w.b)
    low-now m = times-append m w.a (both_of w.p w.r ∷ w.b)

    none : (times_in 0 (s.u ∷ s.us) + times_in 0 (s.l ∷ s.downs)) + times_free 0 s.left ≡ 0
    none = moved_header before count levels chain (λ m. times_in m (s.u ∷ s.us) + times_in m (s.l ∷ s.downs)) s.left s.apart s.are

    header : w.r.page ≢ 0
    header e = absurd (omega (arith, none, low-is 0, flag_one 0 w.r.page (sym e)))

    times : (m : ℕ) → (times_in m s.us + times_in m (v ∷ (w.a ++ both_of w.p w.r ∷ w.b) ∷ s.downs)) + times_free m (w.r.page ∷ s.left) ≡ times_in m levels + times_free m chain + flag (nat_le before m && nat_lt m count)
    times m = omega (arith, s.are.times m, same-times m s.u s.child.before s.child.here s.child.behind (without_item s.child.here.content k) s.child.parts, low-is m, low-now m)

    rest : (m : ℕ) → m < before → times_in m levels + times_free m chain ≡ 0 → new file m ≡ was file m
    rest m h e =
        let up-is : times_on m s.u ≡ times_on m s.child.before + (flag (m == s.child.here.page) + times_on m s.child.behind) = ap (times_on m) s.child.parts ∙ times-append m s.child.before (s.child.here ∷ s.child.behind) in
        let zero-all : (times_in m (s.u ∷ s.us) + times_in m (s.l ∷ s.downs)) + times_free m s.left ≡ 0 = omega (arith, s.are.times m, e, span-under before count m h) in
        j.other m (λ k. absurd (omega (arith, zero-all, low-is m, flag_one m w.p.page k))) (λ k. absurd (omega (arith, zero-all, low-is m, flag_one m w.r.page k))) (λ k. absurd (omega (arith, zero-all, up-is, flag_one m s.child.here.page k)))
        ∙ s.rest m h e
