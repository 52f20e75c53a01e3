-- The node above two pages that were divided anew had no room for the other entry: it was divided, and from there on a
-- name is owed, as after an entry was put.
use Rattle.std.proofs.Common.{◌≡◌, ◌≢◌, ◌==◌, ◌⊎◌, ℕ, ◌+◌, ◌<◌, ◌≤◌, List, [], ◌∷◌, ◌++◌, length, refl, sym, ap, subst, ◌∙◌, arith, inl, inr}
use Rattle.std.specs.Prelude.{Option}
use Rattle.std.specs.List.{AllByRecursion}
use Rattle.std.proofs.lemmas.Bool.{cases_lt}
use Rattle.aria_host.specs.declared.file_name.FileName.{FileName}
use Rattle.aria_cache.specs.PageState.{Bodies}
use Rattle.aria_keypage.specs.declared.key_page.TheConstants.{ITEM_BYTES_MAX}
use Rattle.aria_keypage.specs.Item.{Item, item_at}
use Rattle.aria_keypage.specs.Content.{item_bytes}
use Rattle.aria_keypage.specs.Change.{with_item, without_item}
use Rattle.aria_keypage.specs.Merge.{joined}
use Rattle.aria_keypage.specs.Split.{AreHalves, left_half, right_half}
use Rattle.aria_keypage.proofs.Sizes.{halves-least, without_item-count}
use Rattle.aria_key.specs.declared.path.Passed.{Passed}
use Rattle.aria_key.specs.Tree.{Placed, items_on, names, Rising, Filled, kind_over, Holds}
use Rattle.aria_key.specs.Climb.{above, IsChild, Owes, onto}
use Rattle.aria_key.specs.Held.{HasContent, left_with, right_with}
use Rattle.aria_key.specs.Owned.{times_on, times_in}
use Rattle.aria_key.specs.IndexFile.{times_free}
use Rattle.aria_key.specs.Taking.{AreApart}
use Rattle.aria_key.specs.Ascent.{Ascent, Regrown}
use Rattle.aria_key.specs.Thinning.{AreMoved, Reduced}
use Rattle.aria_key.proofs.Lists.{all-append, all-left, all-right}
use Rattle.aria_key.proofs.Climbing.{names-rise, Belongs, belongs, node-fits}
use Rattle.aria_key.proofs.Dividing.{holding, right_of, Fits}
use Rattle.aria_key.proofs.Filling.{fits-most, halves-filled, level-filled}
use Rattle.aria_key.proofs.Lessening.{swap-name}
use Rattle.aria_key.proofs.Owning.{times-append, times-onto, length-onto}
use Rattle.aria_key.proofs.Starting.{some-right}
use Rattle.aria_key.proofs.Upward.{halved, climb-either}
use Rattle.aria_key.proofs.Spare.{flag, span, span-under, span-over, span-in, chain-still, all-once, all-some, TookOne}
use Rattle.aria_key.proofs.Ascending.{same-times, more-times}
use Rattle.aria_key.proofs.Filing.{held-still, levels-still, has-root}
use Rattle.aria_key.proofs.Moved.{moved_as, moved_apart}
use Rattle.aria_key.proofs.Beside.{AreBeside}
use Rattle.aria_key.proofs.Beneath.{IsBeneath, flag_one, others_in, others_once}
use Rattle.aria_key.proofs.Sharing.{anew, name_anew, AreAnew, divided_anew, anew-holds}

-- ---- from a tree with one low page to one that grew

-- pages behind an end, up to another and from there on
span-then : (before count more n : ℕ) → before ≤ count → count ≤ more → span before count n + span count more n ≡ span before more n
span-then before count more n low high = elim (cases_lt n before) as (λ _. span before count n + span count more n ≡ span before more n) [
  | inl lt ↦ omega (arith, span-under before count n lt, span-under count more n (omega (arith, lt, low)), span-under before more n lt)
  | inr ge ↦ elim (cases_lt n count) as (λ _. span before count n + span count more n ≡ span before more n) [
    | inl lt ↦ omega (arith, span-in before count n (omega (arith, ge)) lt, span-under count more n lt, span-in before more n (omega (arith, ge)) (omega (arith, lt, high)))
    | inr over ↦ elim (cases_lt n more) as (λ _. span before count n + span count more n ≡ span before more n) [
      | inl lt ↦ omega (arith, span-over before count n (omega (arith, over)), span-in count more n (omega (arith, over)) lt, span-in before more n (omega (arith, ge)) lt)
      | inr out ↦ omega (arith, span-over before count n (omega (arith, over)), span-over count more n (omega (arith, out)), span-over before more n (omega (arith, out)))
    ]
  ]
]

-- the levels of a tree with one low page, from the root down
abbrev pub levels_of : List Placed → List (List Placed) → List Placed → List (List Placed) → List (List Placed)
levels_of u us l downs = onto (u ∷ us) (l ∷ downs)

-- they have the tree's pages, and aren't more than before
pub moved_beneath : (file : FileName) (was now : Bodies) (before count key root : ℕ) (levels : List (List Placed)) (chain : List ℕ) (walk : List Item) (front : List Passed) (last : Passed) (page free : ℕ) → (s : IsBeneath file was now before count key root levels chain walk front last page free)
    → AreMoved before count levels chain (λ m. times_in m (levels_of s.u s.us s.l s.downs)) s.left
moved_beneath file was now before count key root levels chain walk front last page free s =
    moved_as before count levels chain (λ m. times_in m (s.u ∷ s.us) + times_in m (s.l ∷ s.downs)) (λ m. times_in m (levels_of s.u s.us s.l s.downs)) s.left (λ m. times-onto m (s.u ∷ s.us) (s.l ∷ s.downs)) s.are

pub few_beneath : (file : FileName) (was now : Bodies) (before count key root : ℕ) (levels : List (List Placed)) (chain : List ℕ) (walk : List Item) (front : List Passed) (last : Passed) (page free : ℕ) → (s : IsBeneath file was now before count key root levels chain walk front last page free)
    → length (levels_of s.u s.us s.l s.downs) ≤ length levels
few_beneath file was now before count key root levels chain walk front last page free s = omega (arith, length-onto (s.u ∷ s.us) (s.l ∷ s.downs), s.size)

pub apart_beneath : (file : FileName) (was now : Bodies) (before count key root : ℕ) (levels : List (List Placed)) (chain : List ℕ) (walk : List Item) (front : List Passed) (last : Passed) (page free : ℕ) → (s : IsBeneath file was now before count key root levels chain walk front last page free)
    → AreApart count (levels_of s.u s.us s.l s.downs) s.left
apart_beneath file was now before count key root levels chain walk front last page free s =
    moved_apart before count levels (levels_of s.u s.us s.l s.downs) chain s.left s.apart (moved_beneath file was now before count key root levels chain walk front last page free s)

-- what grew from there on was reduced from the start
pub regrown_since : (file : FileName) (was mid new : Bodies) (before since more key : ℕ) (levels own : List (List Placed)) (chain left : List ℕ) (walk : List Item) (root next : ℕ) → AreApart before levels chain → AreMoved before since levels chain (λ m. times_in m own) left
    → ((m : ℕ) → m < before → times_in m levels + times_free m chain ≡ 0 → mid file m ≡ was file m) → Regrown file mid new since more key own left walk root next → Reduced file was new before more key levels chain walk root next
regrown_since file was mid new before since more key levels own chain left walk root next apart are rest g = record {
  apart = apart;
  grown = g.grown;
  tree = inr (some, g.tree);
  left = g.left;
  chain_is = g.chain_is;
  are = record {
    grows = omega (arith, are.grows, g.are.grows);
    times = λ m. omega (arith, g.times m, g.are.times m, are.times m, span-then before since more m are.grows g.are.grows);
  };
  rest = λ m low e.
      let none : times_in m own + times_free m left ≡ 0 = omega (arith, are.times m, e, span-under before since m low) in
      g.rest m (omega (arith, none, g.are.times m, span-under since more m (omega (arith, low, are.grows)))) ∙ rest m low e;
}
  where
    some : root ≢ 0
    some e = absurd (omega (arith, all-some since more own left g.taken g.left g.apart g.are, g.times 0, has-root (new file) more key root g.grown walk g.tree, ap (λ (m : ℕ). times_in m g.grown) e))

-- ---- the node was divided

-- a page beside four others isn't one of them
still_four : (old new : ℕ → Option (List ℕ)) (x y z f : ℕ) (others : ℕ → ℕ) → ((m : ℕ) → (m ≡ x → ⊥) → (m ≡ y → ⊥) → (m ≡ z → ⊥) → (m ≡ f → ⊥) → new m ≡ old m) → ((m : ℕ) → others m + (flag (m == x) + flag (m == y) + flag (m == z)) ≤ 1) → others f ≡ 0 → (m : ℕ) → 0 < others m → new m ≡ old m
still_four old new x y z f others same once none m h =
    same m (λ e. absurd (omega (arith, once m, h, flag_one m x e))) (λ e. absurd (omega (arith, once m, h, flag_one m y e))) (λ e. absurd (omega (arith, once m, h, flag_one m z e))) (λ e. absurd (omega (arith, h, ap others e, none)))

-- What the pages hold then, the node's halves among them, and that no other page was changed.
pub record AreHanded (old new : ℕ → Option (List ℕ)) (p r q : Placed) (k i at fresh : ℕ) : Type 0 where
  pub left : HasContent new p.page (left_half (joined p.content r.low r.content) i)
  pub right : HasContent new r.page (right_half (joined p.content r.low r.content) i)
  pub lower : HasContent new q.page (left_with (without_item q.content k) at k (name_anew p r i))
  pub upper : HasContent new fresh (right_with (without_item q.content k) at k (name_anew p r i))
  pub other : (m : ℕ) → (m ≡ p.page → ⊥) → (m ≡ r.page → ⊥) → (m ≡ q.page → ⊥) → (m ≡ fresh → ⊥) → new m ≡ old m

pub hands : (file : FileName) (was old new : Bodies) (before count more key root : ℕ) (levels : List (List Placed)) (chain : List ℕ) (walk : List Item) (front : List Passed) (last : Passed) (page free k i at fresh next : ℕ) → (s : IsBeneath file was old before count key root levels chain walk front last page free)
    → (w : AreBeside s.u s.l s.n last.page last.at k s.child) → (last.at ≡ k) ⊎ (last.at ≡ k + 1) → k < length s.child.here.content.items → AreHalves (joined w.p.content w.r.low w.r.content) i → ITEM_BYTES_MAX < length (item_bytes (joined w.p.content w.r.low w.r.content))
    → length (name_anew w.p w.r i).entry ≤ 1000 → AreHalves (without_item s.child.here.content k) at → ITEM_BYTES_MAX < length (item_bytes (with_item (without_item s.child.here.content k) k (name_anew w.p w.r i)))
    → AreHanded (old file) (new file) w.p w.r s.child.here k i at fresh → (t : TookOne (old file) count more (levels_of s.u s.us s.l s.downs) s.left [] s.left fresh next) → count ≤ more
    → Ascent file old new count more key root (levels_of s.u s.us s.l s.downs) s.left walk front (record { entry = (item_at (without_item s.child.here.content k).items at).entry; to = fresh }) next
hands file was old new before count more key root levels chain walk front last page free k i at fresh next s w near low halves many short parts full j t grows = record {
  apart = apart;
  ups = s.us;
  l = big;
  downs = m ∷ s.downs;
  n = length s.child.before;
  standing = record {
    owes = climb-either key root v m s.us s.downs walk n last.page k at fresh x owes c parts.some parts.more (some-right q.content at least.1) enough;
    hold_ups = levels-still (old file) (new file) count more s.us grows (λ m h. still m (omega (arith, h))) s.hold_ups.1;
    hold = (
      all-append (Holds (new file) more) s.child.before (holding q (left_with q.content at k x) ∷ holding (right_of q at fresh) (right_with q.content at k x) ∷ s.child.behind)
          (held-still (old file) (new file) count more s.child.before grows (λ m h. still m (omega (arith, h))) (all-left (Holds (old file) count) s.child.before (s.child.here ∷ s.child.behind) upper)) (
            record { low = omega (arith, own.0.low, grows); body = j.lower.body; there = j.lower.there; size = j.lower.size; spells = j.lower.spells },
            (
              record { low = t.low; body = j.upper.body; there = j.upper.there; size = j.upper.size; spells = j.upper.spells },
              held-still (old file) (new file) count more s.child.behind grows (λ m h. still m (omega (arith, h))) own.1,
            ),
          ),
      (
        anew-holds (old file) (new file) count more w.a w.p w.r i w.b grows (λ m h. still m (omega (arith, h))) j.left j.right (subst (AllByRecursion (Holds (old file) count)) w.parts s.hold.0),
        levels-still (old file) (new file) count more s.downs grows (λ m h. still m (omega (arith, h))) s.hold.1,
      ),
    );
    once = λ m. omega (arith, now m, all m);
  };
  filled = s.filled.1;
  way = s.way;
  size = omega (arith, length-onto (s.u ∷ s.us) (s.l ∷ s.downs));
  taken = fresh ∷ [];
  left = t.rest;
  chain_is = chain-still (old file) (new file) next t.rest (λ m h. rest-still m h) t.chain_is;
  times = λ m. omega (arith, now m);
  are = t.are;
  rest = λ m e. stays m e;
}
  where
    x : Item
    x = name_anew w.p w.r i

    q : Placed
    q = holding s.child.here (without_item s.child.here.content k)

    v : List Placed
    v = s.child.before ++ q ∷ s.child.behind

    m : List Placed
    m = anew w.a w.p w.r i w.b

    n : ℕ
    n = length (items_on s.child.before) + k

    big : List Placed
    big = halved s.child.before q at fresh (left_with q.content at k x) (right_with q.content at k x) s.child.behind

    apart : AreApart count (levels_of s.u s.us s.l s.downs) s.left
    apart = apart_beneath file was old before count key root levels chain walk front last page free s

    g : AreAnew key root s.us s.u s.downs walk n w.a w.p w.r i w.b
    g = divided_anew file was old before count key root levels chain walk front last page free k i s w near halves many

    some : 0 < length (without_item s.child.here.content k).items
    some = omega (arith, parts.more)

    within : k ≤ length (without_item s.child.here.content k).items
    within = omega (arith, without_item-count s.child.here.content k low, low)

    before-is : IsChild s.u n last.page k
    before-is = record { before = s.child.before; here = s.child.here; behind = s.child.behind; parts = s.child.parts; page_is = s.child.page_is; within = omega (arith, low); index = refl }

    c : IsChild v n last.page k
    c = record { before = s.child.before; here = q; behind = s.child.behind; parts = refl; page_is = s.child.page_is; within = within; index = refl }

    owes : Owes key root (v ∷ s.us) m s.downs walk n x
    owes = (swap-name key root s.u m s.us s.downs walk n last.page k x g.swaps before-is low some).owes

    belong : Belongs owes.front owes.y owes.back s.child.before q k s.child.behind
    belong = belongs key n last.page k owes.front owes.y owes.back v (above root s.us) owes.over.0 c owes.old owes.index

    rises : Rising (owes.front ++ owes.y ∷ x ∷ owes.back)
    rises = subst Rising owes.named (names-rise (kind_over s.downs) key (names m) m owes.under.0)

    fits : Fits q k x s.child.behind
    fits = node-fits key (above root s.us) owes.front owes.y x owes.back s.child.before s.child.behind q k owes.over.0 belong rises

    least : (2045 ≤ length (item_bytes (left_half q.content at))) × (2045 ≤ length (item_bytes (right_half q.content at)))
    least = halves-least q.content at parts (omega (arith, fits-most q k x s.child.behind fits within short, full))

    enough : Filled big
    enough = level-filled root s.us s.child.before s.child.behind s.child.here (holding q (left_with q.content at k x) ∷ holding (right_of q at fresh) (right_with q.content at k x) ∷ [])
        (ap (λ (y : List Placed). names y) (sym s.child.parts) ∙ s.over.0.named) (λ e. subst Filled s.child.parts (s.filled.0 e)) (halves-filled q k at fresh x s.child.behind fits within short parts full)

    upper : AllByRecursion (Holds (old file) count) (s.child.before ++ s.child.here ∷ s.child.behind)
    upper = subst (AllByRecursion (Holds (old file) count)) s.child.parts s.hold_ups.0

    own : AllByRecursion (Holds (old file) count) (s.child.here ∷ s.child.behind)
    own = all-right (Holds (old file) count) s.child.before (s.child.here ∷ s.child.behind) upper

    once : (m : ℕ) → others_in s.us s.child.before s.child.behind w.a w.b s.downs s.left m + (flag (m == w.p.page) + flag (m == w.r.page) + flag (m == s.child.here.page)) ≤ 1
    once m = others_once file was old before count key root levels chain walk front last page free k s w m

    low-is : (m : ℕ) → times_on m s.l ≡ times_on m w.a + (flag (m == w.p.page) + (flag (m == w.r.page) + times_on m w.b))
    low-is m = ap (times_on m) w.parts ∙ times-append m w.a (w.p ∷ w.r ∷ w.b)

    up-is : (m : ℕ) → times_on m s.u ≡ times_on m s.child.before + (flag (m == s.child.here.page) + times_on m s.child.behind)
    up-is m = ap (times_on m) s.child.parts ∙ times-append m s.child.before (s.child.here ∷ s.child.behind)

    whole : (n : ℕ) → times_in n (levels_of s.u s.us s.l s.downs) ≡ times_in n (s.u ∷ s.us) + times_in n (s.l ∷ s.downs)
    whole n = times-onto n (s.u ∷ s.us) (s.l ∷ s.downs)

    now : (n : ℕ) → times_in n s.us + times_in n (big ∷ m ∷ s.downs) ≡ times_in n (levels_of s.u s.us s.l s.downs) + times_free n (fresh ∷ [])
    now n =
        let low-now : times_on n m ≡ times_on n s.l = times-append n w.a _ ∙ sym (low-is n) in
        omega (arith, whole n, low-now, more-times n v s.child.before q s.child.behind at fresh (left_with q.content at k x) (right_with q.content at k x) refl, same-times n s.u s.child.before s.child.here s.child.behind (without_item s.child.here.content k) s.child.parts)

    all : (n : ℕ) → times_in n (levels_of s.u s.us s.l s.downs) + times_free n (fresh ∷ []) + times_free n t.rest ≤ 1
    all n = all-once count more (levels_of s.u s.us s.l s.downs) s.left (fresh ∷ []) t.rest apart t.are n

    still : (n : ℕ) → 0 < times_in n s.us + (times_on n s.child.before + times_on n s.child.behind) + (times_on n w.a + times_on n w.b) + times_in n s.downs → new file n ≡ old file n
    still n h =
        still_four (old file) (new file) w.p.page w.r.page s.child.here.page fresh (λ n. times_in n s.us + (times_on n s.child.before + times_on n s.child.behind) + (times_on n w.a + times_on n w.b) + times_in n s.downs) j.other (λ n. omega (arith, once n))
        (omega (arith, t.unused, whole fresh, low-is fresh, up-is fresh)) n h

    stays : (n : ℕ) → times_in n (levels_of s.u s.us s.l s.downs) + times_free n (fresh ∷ []) ≡ 0 → new file n ≡ old file n
    stays n e =
        j.other n (λ k. absurd (omega (arith, e, whole n, low-is n, flag_one n w.p.page k))) (λ k. absurd (omega (arith, e, whole n, low-is n, flag_one n w.r.page k)))
        (λ k. absurd (omega (arith, e, whole n, up-is n, flag_one n s.child.here.page k))) (λ k. absurd (omega (arith, e, flag_one n fresh k)))

    rest-still : (n : ℕ) → 0 < times_free n t.rest → new file n ≡ old file n
    rest-still n h = stays n (omega (arith, all n, h))
