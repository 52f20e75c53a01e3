-- A step up from a page with too few item bytes, told by what the calls on pages say.
use Rattle.std.proofs.Common.{◌≡◌, ◌==◌, ◌&&◌, ◌⊎◌, ℕ, zero, suc, ◌+◌, ◌-◌, ◌<◌, ◌≤◌, cond, true, false, Bool, List, [], ◌∷◌, ◌++◌, length, refl, sym, ap, subst, ◌∙◌, append_assoc, arith, length-append, inl, inr}
use Rattle.std.specs.Prelude.{Some, None, nat_lt}
use Rattle.std.proofs.lemmas.Bool.Decides.{nat_tests}
use Rattle.std.specs.List.{AllByRecursion}
use Rattle.aria_host.specs.declared.file_name.FileName.{FileName}
use Rattle.aria_host.specs.Folder.{same_file}
use Rattle.aria_cache.specs.PageState.{Bodies}
use Rattle.aria_keypage.specs.declared.kind.Kind.{Kind}
use Rattle.aria_keypage.specs.declared.kind.Kind.TheVariants.{Leaf, Node}
use Rattle.aria_keypage.specs.Item.{Item, item_at, IsItem}
use Rattle.aria_keypage.specs.Content.{Content, item_bytes, width}
use Rattle.aria_keypage.specs.Change.{without_item}
use Rattle.aria_keypage.specs.Merge.{taken_over, joined}
use Rattle.aria_keypage.proofs.Sizes.{three-items, without_item-count}
use Rattle.aria_key.specs.declared.path.Passed.{Passed}
use Rattle.aria_key.specs.declared.path.TheConstants.{MAX_LEVELS}
use Rattle.aria_key.specs.declared.neighbours.Pair.{Pair}
use Rattle.aria_key.specs.Tree.{Placed, IsOf, Filled, kind_over, is_top, Holds}
use Rattle.aria_key.specs.Climb.{above, IsPath}
use Rattle.aria_key.specs.Held.{HasContent, Rewritten}
use Rattle.aria_key.specs.Owned.{times_in}
use Rattle.aria_key.specs.IndexFile.{IsFree, IsChain, times_free}
use Rattle.aria_key.specs.Merging.{IsThin, AreNeighbours, pair_at, IsMerged}
use Rattle.aria_key.specs.Thinning.{Thinned, Reduced}
use Rattle.aria_key.proofs.Lists.{all-at, all-append, all-item, all-right, all-weaker}
use Rattle.aria_key.proofs.Spare.{flag, chain-still}
use Rattle.aria_key.proofs.Ascending.{has-page}
use Rattle.aria_key.proofs.Moved.{moved_once, moved_left}
use Rattle.aria_key.proofs.Beside.{AreBeside, beside}
use Rattle.aria_key.proofs.Beneath.{IsBeneath, AreThree, three_apart, others_in, others_once, kept_content, not_page, flag_one}
use Rattle.aria_key.proofs.Uniting.{AreJoined, unites}
use Rattle.aria_key.proofs.Collapsing.{collapses}

-- ---- the node above

pub record IsNodeAbove (file : FileName) (now : Bodies) (count page at free : ℕ) (content : Content) (left : List ℕ) : Type 0 where
  pub held : HasContent (now file) page content
  pub kind : content.kind ≡ Node
  pub some : 0 < length content.items
  pub within : at ≤ length content.items
  pub low : page < count
  pub chain_is : IsChain (now file) free left
  pub off : times_free page left ≡ 0
  pub lows : (n : ℕ) → 0 < times_free n left → n < count

pub node_above : (file : FileName) (was now : Bodies) (before count key root : ℕ) (levels : List (List Placed)) (chain : List ℕ) (walk : List Item) (front : List Passed) (last : Passed) (page free : ℕ) → (s : IsBeneath file was now before count key root levels chain walk front last page free)
    → IsNodeAbove file now count last.page last.at free s.child.here.content s.left
node_above file was now before count key root levels chain walk front last page free s =
    let h : Holds (now file) count s.child.here = all-at (Holds (now file) count) s.child.before s.child.here s.child.behind s.u s.child.parts s.hold_ups.0 in
    let is : IsOf Node key s.child.here = all-at (IsOf Node key) s.child.before s.child.here s.child.behind s.u s.child.parts s.over.0.kinds in
    record {
      held = record { body = h.body; there = ap (now file) (sym s.child.page_is) ∙ h.there; size = h.size; spells = h.spells };
      kind = is.kind_is;
      some = is.some;
      within = s.child.within;
      low = omega (arith, h.low, s.child.page_is);
      chain_is = s.chain_is;
      off = omega (arith, moved_once before count levels chain (λ m. times_in m (s.u ∷ s.us) + times_in m (s.l ∷ s.downs)) s.left s.apart s.are last.page, has-page last.page s.u s.child.before s.child.here s.child.behind s.child.parts s.child.page_is);
      lows = λ n h. moved_left before count levels chain (λ m. times_in m (s.u ∷ s.us) + times_in m (s.l ∷ s.downs)) s.left s.apart s.are n h;
    }

-- ---- the two pages

pub pair_near : (at k : ℕ) → k ≡ pair_at at → (at ≡ k) ⊎ (at ≡ k + 1)
pair_near zero k e = inl (sym e)
pair_near (suc n) k e =
    let test : nat_lt 0 (suc n) ≡ true = grind (arith, nat_tests) in
    let is : pair_at (suc n) ≡ suc n - 1 = ap (λ (b : Bool). cond b (suc n - 1) 0) test in
    inr (omega (arith, e, is))

pub pair_of : (file : FileName) (was now : Bodies) (before count key root : ℕ) (levels : List (List Placed)) (chain : List ℕ) (walk : List Item) (front : List Passed) (last : Passed) (page free : ℕ) → (s : IsBeneath file was now before count key root levels chain walk front last page free)
    → (r : Pair) → AreNeighbours s.child.here.content last.at r → AreBeside s.u s.l s.n last.page last.at r.at s.child
pair_of file was now before count key root levels chain walk front last page free s r nb = beside key (above root s.us) s.u s.l s.n last.page last.at r.at s.child s.over.0 s.level.named nb.within

-- pages at the same place are the same
same_place : (a b c d : List Placed) (x y : Placed) → a ++ x ∷ b ≡ c ++ y ∷ d → length a ≡ length c → x ≡ y
same_place [] b [] d x y e n = cc
same_place [] b (z ∷ c) d x y e n = absurd (omega (arith, n))
same_place (z ∷ a) b [] d x y e n = absurd (omega (arith, n))
same_place (z ∷ a) b (v ∷ c) d x y e n = same_place a b c d x y (cc) (omega (arith, n))

-- what is asked of the two, and that the node is none of them
pub record ArePaired (file : FileName) (now : Bodies) (count node page : ℕ) (r : Pair) (c d : Content) : Type 0 where
  pub left : HasContent (now file) r.left c
  pub right : HasContent (now file) r.right d
  pub same : c.kind ≡ d.kind
  pub thin : ((e : Content) → HasContent (now file) page e → IsThin e) → IsThin c ⊎ IsThin d
  pub low_left : r.left < count
  pub low_right : r.right < count
  pub apart : r.left ≡ r.right → ⊥
  pub off_left : r.left ≡ node → ⊥
  pub off_right : r.right ≡ node → ⊥
  pub short : length r.between ≤ 1000

pub paired : (file : FileName) (was now : Bodies) (before count key root : ℕ) (levels : List (List Placed)) (chain : List ℕ) (walk : List Item) (front : List Passed) (last : Passed) (page free : ℕ) → (s : IsBeneath file was now before count key root levels chain walk front last page free)
    → (r : Pair) → (nb : AreNeighbours s.child.here.content last.at r) → (w : AreBeside s.u s.l s.n last.page last.at r.at s.child) → ArePaired file now count last.page page r w.p.content w.r.content
paired file was now before count key root levels chain walk front last page free s r nb w = record {
  left = subst (λ (n : ℕ). HasContent (now file) n w.p.content) left-is (record { body = own.0.body; there = own.0.there; size = own.0.size; spells = own.0.spells });
  right = subst (λ (n : ℕ). HasContent (now file) n w.r.content) right-is (record { body = own.1.0.body; there = own.1.0.there; size = own.1.0.size; spells = own.1.0.spells });
  same = kinds.0.kind_is ∙ sym kinds.1.0.kind_is;
  thin = λ thin. either thin (pair_near last.at r.at nb.at_is);
  low_left = omega (arith, own.0.low, left-is);
  low_right = omega (arith, own.1.0.low, right-is);
  apart = λ e. three.left (left-is ∙ e ∙ sym right-is);
  off_left = λ e. three.outer (left-is ∙ e ∙ sym s.child.page_is);
  off_right = λ e. three.right (right-is ∙ e ∙ sym s.child.page_is);
  short = omega (arith, ap length nb.between_is, fits.entry);
}
  where
    left-is : w.p.page ≡ r.left
    left-is = w.left ∙ sym nb.left_is

    right-is : w.r.page ≡ r.right
    right-is = w.right ∙ sym nb.right_is

    own : AllByRecursion (Holds (now file) count) (w.p ∷ w.r ∷ w.b)
    own = all-right (Holds (now file) count) w.a (w.p ∷ w.r ∷ w.b) (subst (AllByRecursion (Holds (now file) count)) w.parts s.hold.0)

    kinds : AllByRecursion (IsOf (kind_over s.downs) key) (w.p ∷ w.r ∷ w.b)
    kinds = all-right (IsOf (kind_over s.downs) key) w.a (w.p ∷ w.r ∷ w.b) (subst (AllByRecursion (IsOf (kind_over s.downs) key)) w.parts s.level.kinds)

    three : AreThree w.p.page w.r.page s.child.here.page
    three = three_apart w.p.page w.r.page s.child.here.page (others_in s.us s.child.before s.child.behind w.a w.b s.downs s.left) (λ m. others_once file was now before count key root levels chain walk front last page free r.at s w m)

    node : Holds (now file) count s.child.here
    node = all-at (Holds (now file) count) s.child.before s.child.here s.child.behind s.u s.child.parts s.hold_ups.0

    fits : IsItem (width s.child.here.content.kind) (item_at s.child.here.content.items r.at)
    fits = all-item (IsItem (width s.child.here.content.kind)) s.child.here.content.items r.at nb.within node.spells.content.items

    either : ((e : Content) → HasContent (now file) page e → IsThin e) → (last.at ≡ r.at) ⊎ (last.at ≡ r.at + 1) → IsThin w.p.content ⊎ IsThin w.r.content
    either thin (inl e) =
        let is : s.nth.here ≡ w.p = same_place s.nth.before s.nth.behind w.a (w.r ∷ w.b) s.nth.here w.p (sym s.nth.parts ∙ w.parts) (omega (arith, s.nth.index, s.child.index, w.index, e)) in
        inl (thin w.p.content (record { body = own.0.body; there = ap (now file) (sym s.nth.page_is ∙ ap (λ (x : Placed). x.page) is) ∙ own.0.there; size = own.0.size; spells = own.0.spells }))
    either thin (inr e) =
        let parts : s.l ≡ (w.a ++ w.p ∷ []) ++ w.r ∷ w.b = w.parts ∙ sym (append_assoc w.a (w.p ∷ []) (w.r ∷ w.b)) in
        let is : s.nth.here ≡ w.r = same_place s.nth.before s.nth.behind (w.a ++ w.p ∷ []) w.b s.nth.here w.r (sym s.nth.parts ∙ parts) (omega (arith, s.nth.index, s.child.index, w.index, e, length-append w.a (w.p ∷ []))) in
        inr (thin w.r.content (record { body = own.1.0.body; there = ap (now file) (sym s.nth.page_is ∙ ap (λ (x : Placed). x.page) is) ∙ own.1.0.there; size = own.1.0.size; spells = own.1.0.spells }))

-- ---- joined

-- the pages, where the calls named them otherwise
joined-pages : (file : FileName) (old mid new : Bodies) (count node page free : ℕ) (r : Pair) (p q c : Placed) → ArePaired file old count node page r p.content q.content → p.page ≡ r.left → q.page ≡ r.right → q.low ≡ r.between → c.page ≡ node → Rewritten file r.left (joined p.content r.between q.content) old mid → IsFree (new file) r.right free
    → ((f : FileName) (n : ℕ) → (same_file file f && (r.right == n)) ≡ false → (same_file file f && (node == n)) ≡ false → new f n ≡ mid f n) → AreJoined (old file) (new file) p q c free
joined-pages file old mid new count node page free r p q c pair left right between here w freed other = record {
  left = subst (λ (e : List ℕ). HasContent (new file) p.page (joined p.content e q.content)) (sym between) (subst (λ (n : ℕ). HasContent (new file) n (joined p.content r.between q.content)) (sym left)
      (kept_content (mid file) (new file) r.left (joined p.content r.between q.content) (other file r.left (not_page file r.right r.left pair.apart) (not_page file node r.left pair.off_left)) w.here));
  right = subst (λ (n : ℕ). IsFree (new file) n free) (sym right) freed;
  other = λ m x y z. other file m (not_page file r.right m (λ e. y (e ∙ sym right))) (not_page file node m (λ e. z (e ∙ sym here))) ∙ w.other file m (not_page file r.left m (λ e. x (e ∙ sym left)));
}

-- a node that isn't the root has three items
pub more_above : (file : FileName) (was now : Bodies) (before count key root : ℕ) (levels : List (List Placed)) (chain : List ℕ) (walk : List Item) (front : List Passed) (last : Passed) (page free k : ℕ) → (s : IsBeneath file was now before count key root levels chain walk front last page free)
    → (front ≡ [] → length s.child.here.content.items ≡ 1 → ⊥) → k < length s.child.here.content.items → 0 < length (without_item s.child.here.content k).items
more_above file was now before count key root levels chain walk front last page free k s more low = by s.us s.way (s.filled.0)
  where
    h : Holds (now file) count s.child.here
    h = all-at (Holds (now file) count) s.child.before s.child.here s.child.behind s.u s.child.parts s.hold_ups.0

    top : (n : ℕ) → front ≡ [] → length s.child.here.content.items ≡ n → 0 < length (without_item s.child.here.content k).items
    top zero e n = absurd (omega (arith, low, n))
    top (suc zero) e n = absurd (more e n)
    top (suc (suc m)) e n = omega (arith, without_item-count s.child.here.content k low, n)

    by : (us : List (List Placed)) → IsPath us (length s.child.before) front → (is_top us ≡ false → Filled s.u) → 0 < length (without_item s.child.here.content k).items
    by [] way full = top (length s.child.here.content.items) way.0 refl
    by (v ∷ us) way full =
        let enough : 2045 ≤ length (item_bytes s.child.here.content) = all-at (λ q. 2045 ≤ length (item_bytes q.content)) s.child.before s.child.here s.child.behind s.u s.child.parts (full refl) in
        omega (arith, three-items s.child.here.content h.spells.content enough, without_item-count s.child.here.content k low)

pub joined_up : (file : FileName) (was old mid new : Bodies) (before count key root : ℕ) (levels : List (List Placed)) (chain : List ℕ) (walk : List Item) (front : List Passed) (last : Passed) (page free : ℕ) → (s : IsBeneath file was old before count key root levels chain walk front last page free)
    → (r : Pair) → (nb : AreNeighbours s.child.here.content last.at r) → (w : AreBeside s.u s.l s.n last.page last.at r.at s.child) → IsMerged file r.left r.right w.p.content w.r.content r.between old mid None → (front ≡ [] → length s.child.here.content.items ≡ 1 → ⊥)
    → IsFree (new file) r.right free → HasContent (new file) last.page (without_item s.child.here.content r.at) → ((f : FileName) (n : ℕ) → (same_file file f && (r.right == n)) ≡ false → (same_file file f && (last.page == n)) ≡ false → new f n ≡ mid f n)
    → Thinned file was new before count key root levels chain walk front last.page r.right
joined_up file was old mid new before count key root levels chain walk front last page free s r nb w merged more freed held other =
    let pair = paired file was old before count key root levels chain walk front last page free s r nb w in
    let left : w.p.page ≡ r.left = w.left ∙ sym nb.left_is in
    let right : w.r.page ≡ r.right = w.right ∙ sym nb.right_is in
    let j = joined-pages file old mid new count last.page page free r w.p w.r s.child.here pair left right (w.between ∙ sym nb.between_is) s.child.page_is merged.0 freed other in
    subst (λ (n : ℕ). Thinned file was new before count key root levels chain walk front last.page n) right
    (unites file was old new before count key root levels chain walk front last page free r.at s w (pair_near last.at r.at nb.at_is) nb.within (more_above file was old before count key root levels chain walk front last page free r.at s more nb.within) j
    (subst (λ (n : ℕ). HasContent (new file) n (without_item s.child.here.content r.at)) (sym s.child.page_is) held))

pub joined_root : (file : FileName) (was old mid new : Bodies) (before count key root : ℕ) (levels : List (List Placed)) (chain : List ℕ) (walk : List Item) (front : List Passed) (last : Passed) (page free : ℕ) → (s : IsBeneath file was old before count key root levels chain walk front last page free)
    → (r : Pair) → (nb : AreNeighbours s.child.here.content last.at r) → (w : AreBeside s.u s.l s.n last.page last.at r.at s.child) → IsMerged file r.left r.right w.p.content w.r.content r.between old mid None → front ≡ [] → length s.child.here.content.items ≡ 1 → length levels ≤ MAX_LEVELS
    → IsFree (new file) r.right free → IsFree (new file) last.page r.right → ((f : FileName) (n : ℕ) → (same_file file f && (r.right == n)) ≡ false → (same_file file f && (last.page == n)) ≡ false → new f n ≡ mid f n)
    → Reduced file was new before count key levels chain walk r.left last.page
joined_root file was old mid new before count key root levels chain walk front last page free s r nb w merged top one few freed gone other =
    let pair = paired file was old before count key root levels chain walk front last page free s r nb w in
    let left : w.p.page ≡ r.left = w.left ∙ sym nb.left_is in
    let right : w.r.page ≡ r.right = w.right ∙ sym nb.right_is in
    let j = joined-pages file old mid new count last.page page free r w.p w.r s.child.here pair left right (w.between ∙ sym nb.between_is) s.child.page_is merged.0 freed other in
    subst (λ (n : ℕ). Reduced file was new before count key levels chain walk n last.page) left (subst (λ (n : ℕ). Reduced file was new before count key levels chain walk w.p.page n) s.child.page_is
    (collapses file was old new before count key root levels chain walk front last page free r.at s w (pair_near last.at r.at nb.at_is) nb.within top one few j
    (subst (λ (n : ℕ). IsFree (new file) n w.r.page) (sym s.child.page_is) (subst (λ (n : ℕ). IsFree (new file) last.page n) (sym right) gone))))

-- ---- divided anew

-- what holds of the entries of two pages in one
joined-short : (p q : Placed) (wp wq : ℕ) → AllByRecursion (IsItem wp) p.content.items → AllByRecursion (IsItem wq) q.content.items → length q.low ≤ 1000 → AllByRecursion (λ x. length x.entry ≤ 1000) (joined p.content q.low q.content).items
joined-short p q wp wq h k low = all-append (λ x. length x.entry ≤ 1000) p.content.items (taken_over p.content.kind q.low q.content.first q.content.items) (all-weaker (IsItem wp) (λ x. length x.entry ≤ 1000) p.content.items (λ x i. i.entry) h) (by p.content.kind)
  where
    by : (kind : Kind) → AllByRecursion (λ x. length x.entry ≤ 1000) (taken_over kind q.low q.content.first q.content.items)
    by Leaf = all-weaker (IsItem wq) (λ x. length x.entry ≤ 1000) q.content.items (λ x i. i.entry) k
    by Node = (low, all-weaker (IsItem wq) (λ x. length x.entry ≤ 1000) q.content.items (λ x i. i.entry) k)

-- what is asked then of the node
pub record IsSharing (file : FileName) (mid : Bodies) (node free : ℕ) (content : Content) (left : List ℕ) (entry : List ℕ) : Type 0 where
  pub held : HasContent (mid file) node content
  pub chain_is : IsChain (mid file) free left
  pub short : length entry ≤ 1000

pub sharing : (file : FileName) (was old mid : Bodies) (before count key root : ℕ) (levels : List (List Placed)) (chain : List ℕ) (walk : List Item) (front : List Passed) (last : Passed) (page free : ℕ) → (s : IsBeneath file was old before count key root levels chain walk front last page free)
    → (r : Pair) → (nb : AreNeighbours s.child.here.content last.at r) → (w : AreBeside s.u s.l s.n last.page last.at r.at s.child) → (entry : List ℕ) → IsMerged file r.left r.right w.p.content w.r.content r.between old mid (Some entry)
    → IsSharing file mid last.page free s.child.here.content s.left entry
sharing file was old mid before count key root levels chain walk front last page free s r nb w entry merged = record {
  held = kept_content (old file) (mid file) last.page s.child.here.content (merged.0.other file last.page (not_page file r.left last.page (λ e. pair.off_left (sym e))) (not_page file r.right last.page (λ e. pair.off_right (sym e)))) above-is.held;
  chain_is = chain-still (old file) (mid file) free s.left (λ m h. merged.0.other file m (not_page file r.left m (λ e. absurd (omega (arith, once m, h, flag_one m w.p.page (e ∙ sym left))))) (not_page file r.right m (λ e. absurd (omega (arith, once m, h, flag_one m w.r.page (e ∙ sym right)))))) s.chain_is;
  short = omega (
    arith,
    ap length merged.0.between_is,
    all-item (λ x. length x.entry ≤ 1000) (joined w.p.content r.between w.r.content).items merged.0.at merged.0.sizes.more
        (subst (λ (e : List ℕ). AllByRecursion (λ x. length x.entry ≤ 1000) (joined w.p.content e w.r.content).items) (w.between ∙ sym nb.between_is)
        (joined-short w.p w.r (width w.p.content.kind) (width w.r.content.kind) pair.left.spells.content.items pair.right.spells.content.items (omega (arith, ap length (w.between ∙ sym nb.between_is), pair.short)))),
  );
}
  where
    pair : ArePaired file old count last.page page r w.p.content w.r.content
    pair = paired file was old before count key root levels chain walk front last page free s r nb w

    above-is : IsNodeAbove file old count last.page last.at free s.child.here.content s.left
    above-is = node_above file was old before count key root levels chain walk front last page free s

    left : w.p.page ≡ r.left
    left = w.left ∙ sym nb.left_is

    right : w.r.page ≡ r.right
    right = w.right ∙ sym nb.right_is

    once : (m : ℕ) → others_in s.us s.child.before s.child.behind w.a w.b s.downs s.left m + (flag (m == w.p.page) + flag (m == w.r.page) + flag (m == s.child.here.page)) ≤ 1
    once m = others_once file was old before count key root levels chain walk front last page free r.at s w m
