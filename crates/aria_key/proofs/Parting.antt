-- A step up from two pages that were divided anew, told by what the calls on pages say: the node had room for the other
-- entry, or it was divided for it.
use Rattle.std.proofs.Common.{◌≡◌, ◌==◌, ℕ, suc, ◌+◌, ◌<◌, ◌≤◌, List, [], ◌∷◌, ◌++◌, length, take, drop, refl, sym, ap, subst, ◌∙◌, add-one, arith}
use Rattle.std.specs.Prelude.{Some, None}
use Rattle.std.specs.List.{AllByRecursion}
use Rattle.std.proofs.lemmas.List.{take-append-drop}
use Rattle.aria_host.specs.declared.file_name.FileName.{FileName}
use Rattle.aria_cache.specs.PageState.{Bodies}
use Rattle.aria_keypage.specs.declared.key_page.TheConstants.{ITEM_BYTES_MAX}
use Rattle.aria_keypage.specs.Item.{Item, item_at, IsItem}
use Rattle.aria_keypage.specs.Content.{Content, item_bytes, width}
use Rattle.aria_keypage.specs.Change.{with_item, without_item}
use Rattle.aria_keypage.specs.Merge.{joined}
use Rattle.aria_keypage.specs.Split.{left_half, right_half}
use Rattle.aria_key.specs.declared.path.Passed.{Passed}
use Rattle.aria_key.specs.declared.place.Divided.{Divided}
use Rattle.aria_key.specs.declared.neighbours.Pair.{Pair}
use Rattle.aria_key.specs.Tree.{Placed}
use Rattle.aria_key.specs.Held.{HasContent, left_with, right_with}
use Rattle.aria_key.specs.Owned.{times_on}
use Rattle.aria_key.specs.IndexFile.{times_free}
use Rattle.aria_key.specs.Ascent.{IsPlaced, Ascent}
use Rattle.aria_key.specs.Merging.{AreNeighbours, IsMerged}
use Rattle.aria_key.specs.Thinning.{Thinned}
use Rattle.aria_key.proofs.Lists.{all-append, all-item, all-left, all-right, drop-at}
use Rattle.aria_key.proofs.Owning.{times-append, times-onto}
use Rattle.aria_key.proofs.Spare.{flag, chain-still, taken-none, TookOne, took-one}
use Rattle.aria_key.proofs.Beside.{AreBeside}
use Rattle.aria_key.proofs.Beneath.{IsBeneath, others_in, others_once, kept_content, not_page, flag_one}
use Rattle.aria_key.proofs.Sharing.{name_anew, shares}
use Rattle.aria_key.proofs.Handing.{levels_of, apart_beneath, hands}
use Rattle.aria_key.proofs.Mending.{node_above, pair_near, ArePaired, paired, sharing}

-- the name of the right page, as the calls say it
same-name : (r : Pair) (p q : Placed) (i : ℕ) (entry : List ℕ) → q.page ≡ r.right → entry ≡ (item_at (joined p.content q.low q.content).items i).entry → record { entry = entry; to = r.right } ≡ name_anew p q i
same-name r p q i entry right is = λ j. record { entry = is j; to = sym right j }

-- ---- the node had room

up-anew : (file : FileName) (was old mid new : Bodies) (before count key root : ℕ) (levels : List (List Placed)) (chain : List ℕ) (walk : List Item) (front : List Passed) (last : Passed) (page free : ℕ) → (s : IsBeneath file was old before count key root levels chain walk front last page free)
    → (r : Pair) → (nb : AreNeighbours s.child.here.content last.at r) → (w : AreBeside s.u s.l s.n last.page last.at r.at s.child) → (entry : List ℕ) → IsMerged file r.left r.right w.p.content w.r.content w.r.low old mid (Some entry)
    → IsPlaced file last.page (without_item s.child.here.content r.at) r.at (record { entry = entry; to = r.right }) count count s.left mid new None → Thinned file was new before count key root levels chain walk front last.page free
up-anew file was old mid new before count key root levels chain walk front last page free s r nb w entry (d, many) (placed, more) =
    let pair = paired file was old before count key root levels chain walk front last page free s r nb w in
    let left : w.p.page ≡ r.left = w.left ∙ sym nb.left_is in
    let right : w.r.page ≡ r.right = w.right ∙ sym nb.right_is in
    let c : Content = joined w.p.content w.r.low w.r.content in
    let name : record { entry = entry; to = r.right } ≡ name_anew w.p w.r d.at = same-name r w.p w.r d.at entry right d.between_is in
    shares file was old new before count key root levels chain walk front last page free r.at d.at s w (pair_near last.at r.at nb.at_is) nb.within d.sizes many
    (subst (λ (n : ℕ). HasContent (new file) n (left_half c d.at)) (sym left) (kept_content (mid file) (new file) r.left (left_half c d.at) (placed.other file r.left (not_page file last.page r.left pair.off_left)) d.left))
    (subst (λ (n : ℕ). HasContent (new file) n (right_half c d.at)) (sym right) (kept_content (mid file) (new file) r.right (right_half c d.at) (placed.other file r.right (not_page file last.page r.right pair.off_right)) d.right))
    (subst (λ (n : ℕ). HasContent (new file) n (with_item (without_item s.child.here.content r.at) r.at (name_anew w.p w.r d.at))) (sym s.child.page_is) (subst (λ (x : Item). HasContent (new file) last.page (with_item (without_item s.child.here.content r.at) r.at x)) name placed.here))
    (λ m x y z. placed.other file m (not_page file last.page m (λ e. z (e ∙ sym s.child.page_is))) ∙ d.other file m (not_page file r.left m (λ e. x (e ∙ sym left))) (not_page file r.right m (λ e. y (e ∙ sym right))))

pub shared_up : (file : FileName) (was old mid new : Bodies) (before count more key root : ℕ) (levels : List (List Placed)) (chain : List ℕ) (walk : List Item) (front : List Passed) (last : Passed) (page free : ℕ) → (s : IsBeneath file was old before count key root levels chain walk front last page free)
    → (r : Pair) → (nb : AreNeighbours s.child.here.content last.at r) → (w : AreBeside s.u s.l s.n last.page last.at r.at s.child) → (entry : List ℕ) → IsMerged file r.left r.right w.p.content w.r.content r.between old mid (Some entry)
    → IsPlaced file last.page (without_item s.child.here.content r.at) r.at (record { entry = entry; to = r.right }) count more s.left mid new None → Thinned file was new before more key root levels chain walk front last.page free
shared_up file was old mid new before count more key root levels chain walk front last page free s r nb w entry merged placed =
    subst (λ (n : ℕ). Thinned file was new before n key root levels chain walk front last.page free) (sym placed.1)
    (up-anew file was old mid new before count key root levels chain walk front last page free s r nb w entry
    (subst (λ (e : List ℕ). IsMerged file r.left r.right w.p.content w.r.content e old mid (Some entry)) (nb.between_is ∙ sym w.between) merged) (placed.0, refl))

-- ---- it was divided

-- what holds of all items holds without one of them
all-without : (P : Item → Type 0) (xs : List Item) (at : ℕ) → at < length xs → AllByRecursion P xs → AllByRecursion P (take at xs ++ drop (suc at) xs)
all-without P xs at low h =
    let parts : take at xs ++ drop at xs ≡ xs = take-append-drop at xs in
    let cut : AllByRecursion P (take at xs ++ drop at xs) = subst (AllByRecursion P) (sym parts) h in
    let back : AllByRecursion P (item_at xs at ∷ drop (at + 1) xs) = subst (AllByRecursion P) (drop-at xs at low) (all-right P (take at xs) (drop at xs) cut) in
    all-append P (take at xs) (drop (suc at) xs) (all-left P (take at xs) (drop at xs) cut) (subst (λ (n : ℕ). AllByRecursion P (drop n xs)) (add-one at) back.1)

parted-anew : (file : FileName) (was old mid new : Bodies) (before count more key root : ℕ) (levels : List (List Placed)) (chain : List ℕ) (walk : List Item) (front : List Passed) (last : Passed) (page free : ℕ) → (s : IsBeneath file was old before count key root levels chain walk front last page free)
    → (r : Pair) → (nb : AreNeighbours s.child.here.content last.at r) → (w : AreBeside s.u s.l s.n last.page last.at r.at s.child) → (entry : List ℕ) → length entry ≤ 1000 → (g : Divided) → IsMerged file r.left r.right w.p.content w.r.content w.r.low old mid (Some entry)
    → IsPlaced file last.page (without_item s.child.here.content r.at) r.at (record { entry = entry; to = r.right }) count more s.left mid new (Some g)
    → Ascent file old new count more key root (levels_of s.u s.us s.l s.downs) s.left walk front (record { entry = g.between; to = g.fresh }) g.free
parted-anew file was old mid new before count more key root levels chain walk front last page free s r nb w entry short g (d, many) (is, h, full, grows) =
    subst (λ (e : List ℕ). Ascent file old new count more key root (levels_of s.u s.us s.l s.downs) s.left walk front (record { entry = e; to = g.fresh }) g.free) (sym h.between_is)
    (hands file was old new before count more key root levels chain walk front last page free r.at d.at h.k g.fresh g.free s w (pair_near last.at r.at nb.at_is) nb.within d.sizes many (omega (arith, ap (λ (x : Item). length x.entry) name, short)) h.sizes
    (subst (λ (x : Item). ITEM_BYTES_MAX < length (item_bytes (with_item node r.at x))) name full) (record {
      left = subst (λ (n : ℕ). HasContent (new file) n (left_half c d.at)) (sym left) (kept_content (mid file) (new file) r.left (left_half c d.at) (h.other file r.left (not_page file last.page r.left pair.off_left) (not_page file g.fresh r.left (λ e. fresh-left (sym e ∙ sym left)))) d.left);
      right = subst (λ (n : ℕ). HasContent (new file) n (right_half c d.at)) (sym right) (kept_content (mid file) (new file) r.right (right_half c d.at) (h.other file r.right (not_page file last.page r.right pair.off_right) (not_page file g.fresh r.right (λ e. fresh-right (sym e ∙ sym right)))) d.right);
      lower = subst (λ (n : ℕ). HasContent (new file) n (left_with node h.k r.at (name_anew w.p w.r d.at))) (sym s.child.page_is) (subst (λ (x : Item). HasContent (new file) last.page (left_with node h.k r.at x)) name h.left);
      upper = subst (λ (x : Item). HasContent (new file) g.fresh (right_with node h.k r.at x)) name h.right;
      other = λ m x y z v. h.other file m (not_page file last.page m (λ e. z (e ∙ sym s.child.page_is))) (not_page file g.fresh m v) ∙ d.other file m (not_page file r.left m (λ e. x (e ∙ sym left))) (not_page file r.right m (λ e. y (e ∙ sym right)));
    }) (record { rest = t.rest; chain_is = chain-still (mid file) (old file) g.free t.rest (λ m k. sym (kept m (omega (arith, k, t.fewer m)))) t.chain_is; are = t.are; fewer = t.fewer; unused = t.unused; low = t.low }) (omega (arith, grows)))
  where
    pair : ArePaired file old count last.page page r w.p.content w.r.content
    pair = paired file was old before count key root levels chain walk front last page free s r nb w

    left : w.p.page ≡ r.left
    left = w.left ∙ sym nb.left_is

    right : w.r.page ≡ r.right
    right = w.right ∙ sym nb.right_is

    c : Content
    c = joined w.p.content w.r.low w.r.content

    node : Content
    node = without_item s.child.here.content r.at

    name : record { entry = entry; to = r.right } ≡ name_anew w.p w.r d.at
    name = same-name r w.p w.r d.at entry right d.between_is

    t : TookOne (mid file) count more (levels_of s.u s.us s.l s.downs) s.left [] s.left g.fresh g.free
    t = took-one (mid file) count count more (levels_of s.u s.us s.l s.downs) s.left [] s.left g.fresh g.free (apart_beneath file was old before count key root levels chain walk front last page free s) (taken-none count s.left) is grows

    low-is : (m : ℕ) → times_on m s.l ≡ times_on m w.a + (flag (m == w.p.page) + (flag (m == w.r.page) + times_on m w.b))
    low-is m = ap (times_on m) w.parts ∙ times-append m w.a (w.p ∷ w.r ∷ w.b)

    fresh-left : g.fresh ≡ w.p.page → ⊥
    fresh-left e = absurd (omega (arith, t.unused, times-onto g.fresh (s.u ∷ s.us) (s.l ∷ s.downs), low-is g.fresh, flag_one g.fresh w.p.page e))

    fresh-right : g.fresh ≡ w.r.page → ⊥
    fresh-right e = absurd (omega (arith, t.unused, times-onto g.fresh (s.u ∷ s.us) (s.l ∷ s.downs), low-is g.fresh, flag_one g.fresh w.r.page e))

    once : (m : ℕ) → others_in s.us s.child.before s.child.behind w.a w.b s.downs s.left m + (flag (m == w.p.page) + flag (m == w.r.page) + flag (m == s.child.here.page)) ≤ 1
    once m = others_once file was old before count key root levels chain walk front last page free r.at s w m

    kept : (m : ℕ) → 0 < times_free m s.left → mid file m ≡ old file m
    kept m h = d.other file m (not_page file r.left m (λ e. absurd (omega (arith, once m, h, flag_one m w.p.page (e ∙ sym left))))) (not_page file r.right m (λ e. absurd (omega (arith, once m, h, flag_one m w.r.page (e ∙ sym right)))))

pub shared_divided : (file : FileName) (was old mid new : Bodies) (before count more key root : ℕ) (levels : List (List Placed)) (chain : List ℕ) (walk : List Item) (front : List Passed) (last : Passed) (page free : ℕ) → (s : IsBeneath file was old before count key root levels chain walk front last page free)
    → (r : Pair) → (nb : AreNeighbours s.child.here.content last.at r) → (w : AreBeside s.u s.l s.n last.page last.at r.at s.child) → (entry : List ℕ) → (g : Divided) → IsMerged file r.left r.right w.p.content w.r.content r.between old mid (Some entry)
    → IsPlaced file last.page (without_item s.child.here.content r.at) r.at (record { entry = entry; to = r.right }) count more s.left mid new (Some g)
    → Ascent file old new count more key root (levels_of s.u s.us s.l s.downs) s.left walk front (record { entry = g.between; to = g.fresh }) g.free
shared_divided file was old mid new before count more key root levels chain walk front last page free s r nb w entry g merged placed =
    let ask = sharing file was old mid before count key root levels chain walk front last page free s r nb w entry merged in
    parted-anew file was old mid new before count more key root levels chain walk front last page free s r nb w entry ask.short g
    (subst (λ (e : List ℕ). IsMerged file r.left r.right w.p.content w.r.content e old mid (Some entry)) (nb.between_is ∙ sym w.between) merged) placed

-- the name that is owed then can be stored
pub parted_short : (file : FileName) (was old mid new : Bodies) (before count more key root : ℕ) (levels : List (List Placed)) (chain : List ℕ) (walk : List Item) (front : List Passed) (last : Passed) (page free k : ℕ) → (s : IsBeneath file was old before count key root levels chain walk front last page free)
    → k < length s.child.here.content.items → (x : Item) (left : List ℕ) (g : Divided) → IsPlaced file last.page (without_item s.child.here.content k) k x count more left mid new (Some g) → length g.between ≤ 1000
parted_short file was old mid new before count more key root levels chain walk front last page free k s low x left g placed =
    let above-is = node_above file was old before count key root levels chain walk front last page free s in
    let kind : ℕ = width s.child.here.content.kind in
    let fits : IsItem kind (item_at (without_item s.child.here.content k).items placed.1.k) = all-item (IsItem kind) (without_item s.child.here.content k).items placed.1.k placed.1.sizes.more (all-without (IsItem kind) s.child.here.content.items k low above-is.held.spells.content.items) in
    omega (arith, ap length placed.1.between_is, fits.entry)
